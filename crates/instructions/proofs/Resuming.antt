-- Writing goes on with the statements under the variable that it began with, and goes back to reading at the first that is not.
use Rattle.std.proofs.Common.{◌≡◌, ℕ, suc, ◌+◌, ◌-◌, ◌<◌, ◌≤◌, Bool, true, false, cond, eqb, List, [], ◌∷◌, ◌++◌, length, drop, get_or, sym, refl, ap, ◌∙◌, arith, append-nil, length-append, inl, inr}
use Rattle.std.proofs.lemmas.List.{get_or_append_left}
use Rattle.std.proofs.lemmas.Bool.{cases_lt}
use Rattle.orders.specs.Meaning.{Meaning}
use Rattle.declarations.specs.Declarations.{among}
use Rattle.grammar.specs.declared.statement.Statement.{Statement}
use Rattle.grammar.specs.declared.statement.Statement.TheVariants.{Kind, Feature}
use Rattle.grammar.specs.Lawful.{Open, path_to, after}
use Rattle.grammar.proofs.Opens.{among-behind, falling_among}
use Rattle.performing.specs.Performing.{State}
use Rattle.performing.specs.Following.{StepLaw}
use Rattle.instructions.specs.declared.instruction.Instruction.{Instruction}
use Rattle.instructions.specs.Codes.{Compiling, subject, depth_of, closes, ends_before, told, told_by_rule, next, read_from, write_from}
use Rattle.instructions.specs.Steps.{run}
use Rattle.instructions.proofs.Paths.{above, deeper, still_among}
use Rattle.instructions.proofs.Agreeing.{Agrees, subject_among}
use Rattle.instructions.proofs.Running.{writing}
use Rattle.instructions.proofs.Closing.{all_passed, gone_back}
use Rattle.instructions.proofs.Telling.{Tells, tells}
use Rattle.instructions.proofs.Left.{rest, told_all, told_run, after_tests}
use Rattle.instructions.proofs.Standing.{performs_on, Stands, stands_may, stands_room, stands_next, Under, WritesHere, Reads, Writes}

-- depths stay as they are
depth_kept : {K : Type 0} (c : Compiling) (t : Statement K) (v : ℕ) → v < length c.depths → depth_of (next c t) v ≡ depth_of c v
depth_kept c (Kind x k) v l = refl
depth_kept c (Feature x f y) v l = each (eqb y (length c.depths))
  where
    each : (b : Bool) → get_or (cond b (c.depths ++ suc (depth_of c x) ∷ []) c.depths) v 0 ≡ get_or c.depths v 0
    each true = get_or_append_left c.depths _ 0 v l
    each false = refl

-- a description stays open over the statements under its variable
open_kept : {K : Type 0} (o : Open) (c : Compiling) (t : Statement K) (v : ℕ) → Agrees o c →
    among v o.path ≡ true → among (subject t) o.path ≡ true → v ≤ subject t → among v (after t o).path ≡ true
open_kept o c (Kind x k) v g a i l = a
open_kept o c (Feature x f y) v g a i l = each (eqb y o.count) (still_among v x o.count o.path g.falling a i l)
  where
    each : (b : Bool) → among v (path_to x o.path) ≡ true → among v (cond b (y ∷ path_to x o.path) (path_to x o.path)) ≡ true
    each true e = among-behind v y (path_to x o.path) e
    each false e = e

module _ {K : Type 0} (m : Meaning K) (law : StepLaw m ℕ) (ks : List K) (reads writes : List Instruction) (n : ℕ) (o : Open) (c : Compiling) (s : State K) where
  module _ (v depth base : ℕ) (p : Under m law ks reads writes n v depth base o c s) where
    met : Agrees o c → v < o.count
    met g = falling_among v o.count o.path g.falling p.open_path

    -- a variable of the open path that is as deep, or deeper, is under v
    under_of : Agrees o c → (x : ℕ) → among x o.path ≡ true → depth ≤ depth_of c x → v ≤ x
    under_of g x i l =
        elim (cases_lt x v) [
          | inl b ↦ absurd (omega (arith, deeper c.depths x v o.count o.path g.falling g.deep i p.open_path b, p.deep))
          | inr b ↦ b
        ]

    innermost_deep : Agrees o c → depth ≤ c.depth
    innermost_deep g = omega (arith, above c.depths v o.path g.deep p.open_path, p.deep, g.innermost)

    -- at the end
    pub writes_end : Reads m law ks reads writes n [] → Stands m law ks reads writes n o c s [] → WritesHere m ks reads writes depth c s []
    unfolding read_from write_from rest
    writes_end reads_end h turns enough =
        let left = h.left in
        let tests : drop c.written writes ≡ closes c.depth 0 c.statements ++ [] = left.write_left ∙ sym (append-nil _) in
        let (k, more, e) =
        gone_back m ks reads writes depth 0 c.statements s [] c.depth turns c.written p.deeper (innermost_deep h.agrees) tests (omega (arith, enough)) in
        e ∙ reads_end o c s h k (omega arith)

    module _ (t : Statement K) (ts : List (Statement K)) (h : Stands m law ks reads writes n o c s (t ∷ ts)) where
      abbrev tests : List Instruction
      tests = ends_before c (subject t)

      before : drop c.written writes ≡ tests ++ (told_by_rule c t ++ write_from (next c t) ts)
      unfolding write_from
      before = h.left.write_left

      lengths : length (write_from c (t ∷ ts)) ≡ length tests + (length (told_by_rule c t) + length (write_from (next c t) ts))
      unfolding write_from
      lengths = length-append tests _ ∙ ap (λ k. length tests + k) (length-append (told_by_rule c t) _)

      rest_length : length (rest c (t ∷ ts)) ≡ length (told_by_rule c t) + length (write_from (next c t) ts)
      unfolding rest
      rest_length = length-append (told_by_rule c t) _

      read_length : length (read_from c (t ∷ ts)) ≡ suc (length (read_from (next c t) ts))
      unfolding read_from
      read_length = refl

      -- the statement is not under v
      back : Reads m law ks reads writes n (t ∷ ts) → depth_of c (subject t) < depth → WritesHere m ks reads writes depth c s (t ∷ ts)
      back reads_on less turns enough =
          let (k, more, e) =
          gone_back m ks reads writes depth (depth_of c (subject t)) c.statements s _ c.depth turns c.written less (innermost_deep h.agrees) before
          (omega (arith, lengths)) in
          e ∙ reads_on o c s h k (omega (arith, lengths, rest_length))

      -- the statement is under v
      module _ (l : v ≤ subject t) where
        agrees : Agrees o c
        agrees = h.agrees

        told_here : Tells m ks n v base o c s t
        told_here =
            tells m ks n v base o c s h.ready agrees p.stretch (omega (arith, met agrees)) t ts (stands_may m law ks reads writes n o c s t ts h)
            (stands_room m law ks reads writes n o c s t ts h) l h.left.kinds_left

        under_next : Under m law ks reads writes n v depth base (after t o) (next c t) told_here.becomes
        under_next =
            record {
              stretch = told_here.stretch;
              open_path = open_kept o c t v agrees p.open_path (subject_among n t o (stands_may m law ks reads writes n o c s t ts h)) l;
              deep = depth_kept c t v (omega (arith, met agrees, agrees.met)) ∙ p.deep;
              later = p.later;
              deeper = p.deeper;
            }

        same : told_by_rule c t ≡ told c t
        same = told_all c t (omega (arith, p.later))

        on : Writes m law ks reads writes n ts → depth ≤ depth_of c (subject t) → WritesHere m ks reads writes depth c s (t ∷ ts)
        on writes_on deep turns enough =
            let k : ℕ = turns - length tests - length (told c t) in
            let w = after_tests ks reads writes t ts c h.left ∙ ap (λ is. is ++ write_from (next c t) ts) same in
            let long : length (told_by_rule c t) ≡ length (told c t) = ap length same in
            ap (λ k. run m ks reads writes k (writing depth s c.written)) (omega (arith, lengths))
            ∙ all_passed m ks reads writes depth (depth_of c (subject t)) c.statements s _ c.depth (length (told c t) + k) c.written deep before
            ∙ told_run m ks reads writes (write_from (next c t) ts) depth c t k (c.written + length tests) s w
            ∙ ap (λ u. run m ks reads writes k (writing depth u (c.written + length tests + length (told c t)))) told_here.written
            ∙ ap (λ i. run m ks reads writes k (writing depth told_here.becomes i)) (ap (λ i. c.written + length tests + i) (sym long))
            ∙ writes_on (after t o) (next c t) told_here.becomes (stands_next m law ks reads writes n o c s t ts h told_here.becomes told_here.performed)
            v depth base under_next k (omega (arith, lengths, read_length))
            ∙ sym (performs_on m c.statements t ts s told_here.becomes told_here.performed)

      pub writes_more : Reads m law ks reads writes n (t ∷ ts) → Writes m law ks reads writes n ts → WritesHere m ks reads writes depth c s (t ∷ ts)
      writes_more reads_on writes_on turns enough =
          elim (cases_lt (depth_of c (subject t)) depth) [
            | inl less ↦ back reads_on less turns enough
            | inr deep ↦
                on (under_of h.agrees (subject t) (subject_among n t o (stands_may m law ks reads writes n o c s t ts h)) deep) writes_on deep turns enough
          ]
