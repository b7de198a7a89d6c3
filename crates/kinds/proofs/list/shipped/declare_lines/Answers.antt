use Rattle.std.proofs.Common.{◌≡◌, ℕ, ◌+◌, ◌<◌, List, [], map, length, get_or, take, Bor, sym, ap, ◌∙◌, subst, arith}
use Rattle.std.proofs.lemmas.List.{get_or-map, length-map}
use Rattle.kinds.specs.Lists.{drafted, Closes}
use Rattle.kinds.specs.Shipped.{shipped, shipped_lines}
use Rattle.kinds.proofs.Ships.{declared, not_err, closes}
use Rattle.kinds.proofs.list.shipped.declare_lines.Goals as goal

-- the lines that are to be declared, one by one
module _ (lines : List (Bor (List ℕ))) (is : map (λ line. line.now) lines ≡ shipped_lines) where
  nine : length lines ≡ 9
  nine = sym (length-map lines (λ line. line.now)) ∙ ap length is

  named : (i : ℕ) (d : Bor (List ℕ)) → i < length lines → (get_or lines i d).now ≡ get_or shipped_lines i []
  named i d l = sym (get_or-map (λ line. line.now) lines i d [] l) ∙ ap (λ xs. get_or xs i []) is

pub loop-line-preserved : goal.loop-line-preserved
loop-line-preserved c =
    let lines = c.args.lines.now in
    let i = c.loop-line.line-index in
    let l = c.loop-line-test.true in
    declared i (omega (arith, nine lines c.requires)) (drafted c.loop-line.draft) _ c.loop-line.invariant (named lines c.requires i _ l) _ c.declare.result
    c.declare.ensures.answer

pub returns-in_err-declare : goal.returns-in_err-declare
returns-in_err-declare c =
    let lines = c.args.lines.now in
    let i = c.loop-line.line-index in
    let l = c.loop-line-test.true in
    absurd (not_err i (omega (arith, nine lines c.requires)) (drafted c.loop-line.draft) _ c.loop-line.invariant (named lines c.requires i _ l) _ c.declare.result _ c.declare.ensures.answer c.in_err-declare.was)

pub returns : goal.returns
returns c =
    let i : c.loop-line.line-index + 1 ≡ 10 = omega (arith, nine c.args.lines.now c.requires) in
    let all : drafted c.loop-line.draft ≡ shipped = c.loop-line.invariant ∙ ap (λ n. take n shipped) i in
    let p = closes _ _ _ (subst (λ ds. Closes ds c.args.list.now c.close.new.list c.close.result) all c.close.ensures.answer) in
    record { answer = p.0; after = p.1 }
