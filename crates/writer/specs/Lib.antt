-- What the writer's contracts say beside `planning`'s Text.
-- a literal as one number
pub mod Literal
