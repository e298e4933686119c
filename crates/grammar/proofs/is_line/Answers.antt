use native.Mathlib.Omega.{arith}
use mathlib.Core.Path.{refl, ap, ◌∙◌}
use Rattle.grammar.proofs.Lines.{line_wide, line_bare, line_of, line_other, letter_other}
use Rattle.grammar.specs.Field.{forms_of}
use Rattle.grammar.specs.Line.{F, S, T, M, I, R, letter_of}
use Rattle.grammar.proofs.is_line.Goals as goal

pub returns-in_default : goal.returns-in_default
returns-in_default c = line_bare c.args.line.now c.split_first.result.0.now c.split_first.result.1 c.split_first.ensures.parts c.in_default.is

pub returns-in-70 : goal.returns-in-70
unfolding forms_of letter_of
returns-in-70 c =
    c.are_fields.ensures ∙ line_of c.args.line.now c.split_first.result.0.now c.split_first.result.1 c.split_first.ensures.parts c.in-Some.fields c.in-Some.is (omega arith)
    c.split_first.ensures.bytes F _ (ap letter_of c.in-70.is) refl

pub returns-in-83 : goal.returns-in-83
unfolding forms_of letter_of
returns-in-83 c =
    c.are_fields-in-83.ensures ∙ line_of c.args.line.now c.split_first.result.0.now c.split_first.result.1 c.split_first.ensures.parts c.in-Some.fields c.in-Some.is (omega arith)
    c.split_first.ensures.bytes S _ (ap letter_of c.in-83.is) refl

pub returns-in-84 : goal.returns-in-84
unfolding forms_of letter_of
returns-in-84 c =
    c.are_fields-in-84.ensures ∙ line_of c.args.line.now c.split_first.result.0.now c.split_first.result.1 c.split_first.ensures.parts c.in-Some.fields c.in-Some.is (omega arith)
    c.split_first.ensures.bytes T _ (ap letter_of c.in-84.is) refl

pub returns-in-77 : goal.returns-in-77
unfolding forms_of letter_of
returns-in-77 c =
    c.are_fields-in-77.ensures ∙ line_of c.args.line.now c.split_first.result.0.now c.split_first.result.1 c.split_first.ensures.parts c.in-Some.fields c.in-Some.is (omega arith)
    c.split_first.ensures.bytes M _ (ap letter_of c.in-77.is) refl

pub returns-in-73 : goal.returns-in-73
unfolding forms_of letter_of
returns-in-73 c =
    c.are_fields-in-73.ensures ∙ line_of c.args.line.now c.split_first.result.0.now c.split_first.result.1 c.split_first.ensures.parts c.in-Some.fields c.in-Some.is (omega arith)
    c.split_first.ensures.bytes I _ (ap letter_of c.in-73.is) refl

pub returns-in-82 : goal.returns-in-82
unfolding forms_of letter_of
returns-in-82 c =
    c.are_fields-in-82.ensures ∙ line_of c.args.line.now c.split_first.result.0.now c.split_first.result.1 c.split_first.ensures.parts c.in-Some.fields c.in-Some.is (omega arith)
    c.split_first.ensures.bytes R _ (ap letter_of c.in-82.is) refl

pub returns-in_default-first : goal.returns-in_default-first
returns-in_default-first c =
    line_other c.args.line.now c.split_first.result.0.now c.split_first.result.1 c.split_first.ensures.parts c.in-Some.fields c.in-Some.is (omega arith)
    c.split_first.ensures.bytes
    (letter_other _ (λ e. omega (arith, e)) (λ e. omega (arith, e)) (λ e. omega (arith, e)) (λ e. omega (arith, e)) (λ e. omega (arith, e))
    (λ e. omega (arith, e)))

pub returns-in_default-letter : goal.returns-in_default-letter
returns-in_default-letter c =
    line_wide c.args.line.now c.split_first.result.0.now c.split_first.result.1 c.split_first.ensures.parts (λ e. omega (arith, e))

pub returns-in_default-letter-2 : goal.returns-in_default-letter-2
returns-in_default-letter-2 c =
    line_wide c.args.line.now c.split_first.result.0.now c.split_first.result.1 c.split_first.ensures.parts (λ e. omega (arith, e))
