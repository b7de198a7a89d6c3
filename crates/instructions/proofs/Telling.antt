-- In a stretch of writing the instructions of a statement do what performing it does.
use Rattle.std.proofs.Common.{◌≡◌, ℕ, ◌+◌, ◌<◌, ◌≤◌, true, List, [], ◌∷◌, length, drop, get_or, Some, None, sym, refl, ap, ◌∙◌, arith, inl, inr}
use Rattle.std.proofs.lemmas.Bool.{cases_eq, cond-true, cond-false, eq-eqb, ne_eqb}
use Rattle.std.proofs.lemmas.Option.{get_or_from_slice_get}
use Rattle.orders.specs.Meaning.{Meaning}
use Rattle.grammar.specs.declared.statement.Statement.{Statement}
use Rattle.grammar.specs.declared.statement.Statement.TheVariants.{Kind, Feature}
use Rattle.grammar.specs.Lawful.{Open, may_come, after}
use Rattle.grammar.proofs.Opens.{falling_among}
use Rattle.joining.specs.Heap.{slot}
use Rattle.performing.specs.Performing.{State, end_of, perform}
use Rattle.instructions.specs.declared.instruction.Instruction.TheVariants.{PushCell, SetSort, SetFeature}
use Rattle.instructions.specs.Codes.{Compiling, kinds, subject, told}
use Rattle.instructions.specs.Steps.{place, write, entered}
use Rattle.instructions.proofs.Fetching.{get_first}
use Rattle.instructions.proofs.Agreeing.{Agrees, subject_among, untold, feature_known}
use Rattle.instructions.proofs.Stretches.{Ready, Stretch, stretch_end}
use Rattle.instructions.proofs.WrittenKinds.{kind_performed, kind_stretch}
use Rattle.instructions.proofs.WrittenFeatures.{new_set, old_set, new_performed, new_written, old_performed}
use Rattle.instructions.proofs.Spreading.{old_stretch, new_stretch}

-- a cell is left for a new variable
abbrev pub Room : {K : Type 0} → Open → State K → Statement K → Type 0
Room o s t = s.heap.used + (after t o).count ≤ length s.heap.cells + o.count

-- the subject of a statement that may come is met
pub subject_met : {K : Type 0} (n : ℕ) (s : Statement K) (o : Open) (c : Compiling) → Agrees o c → may_come n s o ≡ true → subject s < o.count
subject_met n s o c a may = falling_among (subject s) o.count o.path a.falling (subject_among n s o may)

-- a kind goes by its number
pub numbered : {K : Type 0} (ks rest : List K) (i : ℕ) (k d : K) → drop i ks ≡ k ∷ rest → get_or ks i d ≡ k
numbered ks rest i k d e = get_or_from_slice_get ks i k d (get_first ks i k rest e)

module _ {K : Type 0} (m : Meaning K) (ks : List K) (n v base : ℕ) (o : Open) (c : Compiling) (s : State K) where
  -- a statement is told as it is performed, and the stretch goes on
  pub record Tells (t : Statement K) : Type 0 where
    pub becomes : State K
    pub performed : perform m t s ≡ Some becomes
    pub written : entered m ks (told c t) s ≡ becomes
    pub stretch : Stretch m n v base (after t o) becomes

  module _ (r : Ready m n o s) (g : Agrees o c) (a : Stretch m n v base o s) (low : v ≤ o.count) where
    pub tells_kind : (x : ℕ) (k : K) (rest : List K) → may_come n (Kind x k) o ≡ true → v ≤ x → drop c.kinds ks ≡ k ∷ rest → Tells (Kind x k)
    unfolding entered
    tells_kind x k rest may l e =
        let name = numbered ks rest c.kinds k m.widest e in
        let u = subject_met n (Kind x k) o c g may in
        record {
          becomes = write m ks (SetSort x c.kinds) s;
          performed = kind_performed m ks n v base o s r a x c.kinds k name may l u;
          written = refl;
          stretch = kind_stretch m ks n v base o s r a x c.kinds k name may l u;
        }

    pub tells_feature : (x f y : ℕ) → may_come {K = K} n (Feature x f y) o ≡ true → Room o s (Feature x f y) → slot s.heap (end_of m s x) f ≡ None →
        ((z : ℕ) → v ≤ z → z < o.count → place s z ≡ end_of m s x → z ≡ x) → Tells (Feature x f y)
    unfolding entered
    tells_feature x f y may room empty apart =
        let known = feature_known n x f y o K may in
        let u = subject_met {K = K} n (Feature x f y) o c g may in
        elim (cases_eq y o.count) [
          | inl new ↦
              let p = eq-eqb y o.count new in
              let q = eq-eqb y (length c.depths) (new ∙ sym g.met) in
              let room : s.heap.used < length s.heap.cells = (let room = rw p at room in omega arith) in
              record {
                becomes = new_set m s x f;
                performed = new_performed m ks n o s r x f y known u empty new room;
                written =
                    ap (λ is. entered m ks is s) (cond-true _ (PushCell y ∷ SetFeature x f y ∷ []) (SetFeature x f y ∷ []) q)
                    ∙ new_written m ks n o s r x f y known u empty new room;
                stretch = new_stretch m ks n v base o s r a x f y known u apart new low room;
              }
          | inr old ↦
              let q = ne_eqb y (length c.depths) (λ e. old (e ∙ g.met)) in
              record {
                becomes = old_set m s x f y;
                performed = old_performed m ks n o s r x f y known u empty old;
                written = ap (λ is. entered m ks is s) (cond-false _ (PushCell y ∷ SetFeature x f y ∷ []) (SetFeature x f y ∷ []) q);
                stretch = old_stretch m ks n v base o s r a x f y known u apart old;
              }
        ]

    -- a statement of a variable of the stretch
    pub tells : (t : Statement K) (ts : List (Statement K)) → may_come n t o ≡ true → Room o s t → v ≤ subject t → drop c.kinds ks ≡ kinds (t ∷ ts) → Tells t
    unfolding kinds
    tells (Kind x k) ts may room l e = tells_kind x k (kinds ts) may l e
    tells (Feature x f y) ts may room l e =
        let u = subject_met {K = K} n (Feature x f y) o c g may in
        let known = feature_known n x f y o K may in
        let same = stretch_end m n v base o s a x l u in
        tells_feature x f y may room (ap (λ e. slot s.heap e f) same ∙ a.untold x f l u known (untold n x f y o K may))
        (λ z lz uz q. omega (arith, a.places z lz uz, a.places x l u, q, same))
