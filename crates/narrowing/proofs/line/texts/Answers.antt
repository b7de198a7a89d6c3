use Rattle.std.proofs.Common.{◌+◌, ◌≤◌, length, ap, ◌∙◌, arith, rules}
use Rattle.std.proofs.lemmas.List.{take_rest}
use Rattle.narrowing.proofs.Blanks.{blank_is, line_length, front_is, back_is}
use Rattle.narrowing.proofs.line.texts.Goals as goal

pub slice_bounds-second-count : goal.slice_bounds-second-count
slice_bounds-second-count c =
    let at = blank_is c.args.line.now c.requires _ _ c.first_blank.ensures c.unwrap_or-blank.ensures in
    omega (arith, line_length c.args.line.now c.requires)

pub slice_bounds-second-start : goal.slice_bounds-second-start
slice_bounds-second-start c =
    let at = blank_is c.args.line.now c.requires _ _ c.first_blank.ensures c.unwrap_or-blank.ensures in
    let within : c.unwrap_or-blank.result + 1 ≤ length c.args.line.now = omega (arith, line_length c.args.line.now c.requires) in
    search rules

pub returns : goal.returns
returns c =
    let line = c.args.line.now in
    let at = blank_is line c.requires _ _ c.first_blank.ensures c.unwrap_or-blank.ensures in (
      c.requires,
      record {
        first = front_is line c.requires _ at;
        first_place = search rules;
        second = take_rest line (c.unwrap_or-blank.result + 1) ∙ back_is line c.requires _ at;
        second_place = ap (λ n. n + 1) at;
      },
    )
