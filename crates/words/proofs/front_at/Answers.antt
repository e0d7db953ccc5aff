use Rattle.std.proofs.Common.{sym, ap, ◌∙◌, rules}
use Rattle.words.specs.Next.{found_there, read_found}
use Rattle.words.proofs.Fronts.{found_digit, symbol_found, found_symbol}
use Rattle.words.proofs.front_at.Goals as goal

pub spelled_at-requires : goal.spelled_at-requires
spelled_at-requires c =
    record {
      start_in_bounds = search rules;
      start_value = sym c.is_ascii_alphabetic.ensures.value ∙ c.if-is_ascii_alphabetic.true;
    }

pub returns-then-is_ascii_digit : goal.returns-then-is_ascii_digit
returns-then-is_ascii_digit c =
    ap found_there c.number_found.ensures ∙ ap (λ n. found_there (read_found c.args.start n)) c.number_at.ensures
    ∙ found_digit c.args.text.now c.args.start c.requires.start_in_bounds (sym c.is_ascii_digit.ensures.value ∙ c.if-is_ascii_digit.true)

pub returns-in-Some : goal.returns-in-Some
returns-in-Some c =
    ap (symbol_found c.args.text.now c.args.start c.requires.start_in_bounds) (sym c.in-Some.is)
    ∙ found_symbol c.args.text.now c.args.start c.requires.start_in_bounds c.requires.start_value (sym c.is_ascii_alphabetic.ensures.value ∙ c.if-is_ascii_alphabetic.false)
    (sym c.is_ascii_digit.ensures.value ∙ c.if-is_ascii_digit.false) c.if-b-eq45.false _ c.symbol.ensures

pub returns-in-None : goal.returns-in-None
returns-in-None c =
    ap (symbol_found c.args.text.now c.args.start c.requires.start_in_bounds) (sym c.in-None.is)
    ∙ found_symbol c.args.text.now c.args.start c.requires.start_in_bounds c.requires.start_value (sym c.is_ascii_alphabetic.ensures.value ∙ c.if-is_ascii_alphabetic.false)
    (sym c.is_ascii_digit.ensures.value ∙ c.if-is_ascii_digit.false) c.if-b-eq45.false _ c.symbol.ensures
