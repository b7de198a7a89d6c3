-- The codes perform the statements that are to come.
use Rattle.std.proofs.Common.{◌≡◌, ℕ, zero, suc, ◌+◌, ◌-◌, ◌≤◌, true, eqb, List, [], ◌∷◌, length, drop, Some, None, Option, sym, refl, ap, ◌∙◌, arith, inl, inr, length-append}
use Rattle.std.specs.Prelude.{option_map}
use Rattle.std.proofs.lemmas.Bool.{cases_eq, eq-eqb, or_left}
use Rattle.std.proofs.lemmas.List.{get_or_push}
use Rattle.orders.specs.Meaning.{Meaning}
use Rattle.declarations.specs.Declarations.{among}
use Rattle.grammar.specs.declared.statement.Statement.{Statement}
use Rattle.grammar.specs.declared.statement.Statement.TheVariants.{Kind, Feature}
use Rattle.grammar.specs.Lawful.{Open, path_to, after, may_come}
use Rattle.joining.specs.Heap.{slot}
use Rattle.performing.specs.Performing.{State, end_of, perform, perform_from}
use Rattle.performing.specs.Following.{StepLaw}
use Rattle.instructions.specs.declared.instruction.Instruction.{Instruction}
use Rattle.instructions.specs.Codes.{Compiling, kinds, depth_of, ends_before, told, told_by_rule, read, next, read_from, write_from}
use Rattle.instructions.specs.Steps.{on, run}
use Rattle.instructions.proofs.Running.{reading, writing, reads_on, reads_clash, reads_end}
use Rattle.instructions.proofs.Stretches.{stretch_none}
use Rattle.instructions.proofs.Telling.{Tells, tells_feature, subject_met, numbered}
use Rattle.instructions.proofs.Left.{rest, rest_short, after_tests, told_run}
use Rattle.instructions.proofs.Standing.{performs_on, performs_clash, performs_none, Stands, stands_may, stands_room, stands_next, Under, ReadsHere, Reads, Writes}
use Rattle.instructions.proofs.Advancing.{DoesSo, kind_so, old_so, found_so, empty_so}
use Rattle.instructions.proofs.Resuming.{writes_end, writes_more}

among_first : (y : ℕ) (ys : List ℕ) → among y (y ∷ ys) ≡ true
unfolding among
among_first y ys = or_left (eqb y y) _ (eq-eqb y y refl)

module _ {K : Type 0} (m : Meaning K) (law : StepLaw m ℕ) (ks : List K) (reads writes : List Instruction) (n : ℕ) where
  reads_none : Reads m law ks reads writes n []
  unfolding read_from
  reads_none o c s h turns enough = reads_end m ks reads writes turns s c.statements h.left.read_left ∙ sym (performs_none m c.statements s)

  module _ (o : Open) (c : Compiling) (s : State K) (ts : List (Statement K)) where
    abbrev Goes : Statement K → Type 0
    Goes t = ReadsHere m ks reads writes c s (t ∷ ts)

    module _ (t : Statement K) (h : Stands m law ks reads writes n o c s (t ∷ ts)) where
      read_here : drop c.statements reads ≡ read c t ∷ read_from (next c t) ts
      unfolding read_from
      read_here = h.left.read_left

      lengths : (length (read_from c (t ∷ ts)) ≡ suc (length (read_from (next c t) ts))) × (length (write_from (next c t) ts) ≤ length (rest c (t ∷ ts)))
      unfolding read_from rest
      lengths = (refl, omega (arith, length-append (told_by_rule c t) (write_from (next c t) ts)))

      -- an instruction that does what performing does
      goes_so : DoesSo m ks c s t → Reads m law ks reads writes n ts → Goes t
      goes_so so rest_reads zero enough = absurd (omega (arith, lengths))
      goes_so so rest_reads (suc k) enough = go (perform m t s) refl
        where
          go : (r : Option (State K)) → perform m t s ≡ r → run m ks reads writes (suc k) (reading s c.statements) ≡ perform_from m c.statements (t ∷ ts) s
          go None e =
              reads_clash m ks reads writes k s c.statements (read c t) (read_from (next c t) ts) read_here
              (so ∙ ap (option_map (on (reading s c.statements))) e)
              ∙ sym (performs_clash m c.statements t ts s e)
          go (Some u) e =
              reads_on m ks reads writes k s c.statements (read c t) (read_from (next c t) ts) (reading u (suc c.statements)) read_here
              (so ∙ ap (option_map (on (reading s c.statements))) e)
              ∙ rest_reads (after t o) (next c t) u (stands_next m law ks reads writes n o c s t ts h u e) k (omega (arith, lengths, rest_short (next c t) ts))
              ∙ sym (performs_on m c.statements t ts s u e)

    -- an empty slot: the value is written, and what is under it
    module _ (x f y : ℕ) (h : Stands m law ks reads writes n o c s (Feature x f y ∷ ts)) (new : y ≡ o.count) (empty : slot s.heap (end_of m s x) f ≡ None) where
      abbrev t : Statement K
      t = Feature x f y

      may : may_come n t o ≡ true
      may = stands_may m law ks reads writes n o c s t ts h

      told_here : Tells m ks n o.count s.heap.used o c s t
      told_here =
          tells_feature m ks n o.count s.heap.used o c s h.ready h.agrees (stretch_none m n o s h.ready) (omega arith) x f y may
          (stands_room m law ks reads writes n o c s t ts h) empty (λ z l b e. absurd (omega arith))

      under : Under m law ks reads writes n o.count (suc (depth_of c x)) s.heap.used (after t o) (next c t) told_here.becomes
      under =
          let p = eq-eqb y o.count new in
          let q = eq-eqb y (length c.depths) (new ∙ sym h.agrees.met) in
          record {
            stretch = told_here.stretch;
            open_path = rw p (rw (← new) (among_first y (path_to x o.path)));
            deep = rw q (get_or_push c.depths (suc (depth_of c x)) 0 o.count h.agrees.met);
            later = omega (arith, subject_met {K = K} n t o c h.agrees may);
            deeper = omega arith;
          }

      rest_length : length (rest c (t ∷ ts)) ≡ length (told c t) + length (write_from (next c t) ts)
      unfolding rest
      rest_length = length-append (told c t) (write_from (next c t) ts)

      goes_writing : Writes m law ks reads writes n ts → Goes t
      goes_writing rest_writes zero enough = absurd (omega (arith, lengths t h))
      goes_writing rest_writes (suc k) enough =
          let depth = suc (depth_of c x) in
          let label = c.written + length (ends_before c x) in
          let left : ℕ = k - length (told c t) in
          let e = h.agrees.met ∙ sym h.ready.met in
          reads_on m ks reads writes k s c.statements (read c t) (read_from (next c t) ts) (writing depth s label) (read_here t h)
          (empty_so m ks c s x f y (new ∙ sym h.agrees.met) e empty)
          ∙ ap (λ k. run m ks reads writes k (writing depth s label)) (omega (arith, lengths t h, rest_length))
          ∙ told_run m ks reads writes (write_from (next c t) ts) depth c t left label s (after_tests ks reads writes t ts c h.left)
          ∙ ap (λ u. run m ks reads writes left (writing depth u (label + length (told c t)))) told_here.written
          ∙ rest_writes (after t o) (next c t) told_here.becomes (stands_next m law ks reads writes n o c s t ts h told_here.becomes told_here.performed)
          o.count depth s.heap.used under left (omega (arith, lengths t h, rest_length))
          ∙ sym (performs_on m c.statements t ts s told_here.becomes told_here.performed)

    goes_feature : (x f y : ℕ) → Stands m law ks reads writes n o c s (Feature x f y ∷ ts) → Reads m law ks reads writes n ts →
        Writes m law ks reads writes n ts → Goes (Feature x f y)
    goes_feature x f y h rest_reads rest_writes =
        elim (cases_eq y o.count) [
          | inl new ↦ go new (slot s.heap (end_of m s x) f) refl
          | inr old ↦ goes_so (Feature x f y) h (old_so m ks c s x f y (λ q. old (q ∙ h.agrees.met)) same) rest_reads
        ]
      where
        same : length c.depths ≡ length s.places
        same = h.agrees.met ∙ sym h.ready.met

        go : y ≡ o.count → (found : Option ℕ) → slot s.heap (end_of m s x) f ≡ found → Goes (Feature x f y)
        go new (Some j) e = goes_so (Feature x f y) h (found_so m ks c s x f y (new ∙ sym h.agrees.met) same j e) rest_reads
        go new None e = goes_writing x f y h new e rest_writes

    goes : (t : Statement K) → Stands m law ks reads writes n o c s (t ∷ ts) → Reads m law ks reads writes n ts →
        Writes m law ks reads writes n ts → Goes t
    unfolding kinds
    goes (Kind x k) h rest_reads rest_writes =
        goes_so (Kind x k) h (kind_so m ks c s x k (numbered ks (kinds ts) c.kinds k m.widest h.left.kinds_left)) rest_reads
    goes (Feature x f y) h rest_reads rest_writes = goes_feature x f y h rest_reads rest_writes

  both : (ts : List (Statement K)) → Reads m law ks reads writes n ts × Writes m law ks reads writes n ts
  both [] = (reads_none, λ o c s h v depth base p. writes_end m law ks reads writes n o c s v depth base p reads_none h)
  both (t ∷ ts) =
      let (rest_reads, rest_writes) = both ts in
      let these : Reads m law ks reads writes n (t ∷ ts) = λ o c s h. goes o c s ts t h rest_reads rest_writes in
      (these, λ o c s h v depth base p. writes_more m law ks reads writes n o c s v depth base p t ts h these rest_writes)

  pub performed : (ts : List (Statement K)) → Reads m law ks reads writes n ts
  performed ts = (both ts).0
