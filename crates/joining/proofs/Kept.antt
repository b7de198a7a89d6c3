-- Ends of a heap in order; and it stays in order when two ends are bound and when a slot is filled.
use Rattle.std.proofs.Common.{List, Some, arith, inl, inr, length, suc, sym, ℕ, ◌<◌, ◌∙◌, ◌≡◌, ◌≢◌, ◌⊎◌}
use Rattle.std.proofs.lemmas.Bool.{cases_eq}
use Rattle.joining.specs.Good.{Good, Reaches, away}
use Rattle.joining.specs.Heap.{Heap, end, fill, kind, put_kind, refers, slot}
use Rattle.joining.specs.Joining.{bind}
use Rattle.joining.specs.declared.cell.Cell.{Cell}
use Rattle.joining.proofs.Follow.{at_end, away_below, away_more, follow_in, reach_moved, same_end, stays}
use Rattle.joining.proofs.Writes.{put_kind_here, put_kind_length, put_kind_refers, put_kind_there, put_refers_here, put_refers_kind, put_refers_length, put_refers_there, put_slot_here, put_slot_length, put_slot_there}

module _ {K : Type 0} (top : K) (h : Heap K) (g : Good top h) where
  pub end_in : (i : ℕ) → i < h.used → end top h i < h.used
  end_in i l = follow_in (refers top h) h.used g.inside (length h.cells) i l

  -- the end of a cell refers to itself
  pub end_root : (i : ℕ) → i < h.used → refers top h (end top h i) ≡ end top h i
  end_root i l =
      let (k, le, e) = g.reaches i l in
      at_end (refers top h) k (length h.cells) i (omega (arith, away_below (refers top h) h.used, g.room)) e

  pub end_refers : (i : ℕ) → i < h.used → end top h (refers top h i) ≡ end top h i
  end_refers i l = same_end (refers top h) (length h.cells) i (end_root i l)

-- a cell that refers to itself is its own end
pub root_end : {K : Type 0} (top : K) (h : Heap K) (i : ℕ) → refers top h i ≡ i → end top h i ≡ i
root_end top h i e = stays (refers top h) (length h.cells) i e

-- an end is its own end
pub end_end : {K : Type 0} (top : K) (h : Heap K) → Good top h → (i : ℕ) → i < h.used → end top h (end top h i) ≡ end top h i
end_end top h g i l = root_end top h (end top h i) (end_root top h g i l)

pub bind_length : {K : Type 0} (top : K) (a b : ℕ) (k : K) (h : Heap K) → length (bind top a b k h).cells ≡ length h.cells
bind_length top a b k h = put_refers_length top (put_kind top h.cells a k) b a ∙ put_kind_length top h.cells a k

-- two ends in use, which are not one
pub record Apart {K : Type 0} (top : K) (h : Heap K) (a b : ℕ) : Type 0 where
  pub first_in : a < h.used
  pub second_in : b < h.used
  pub first_end : refers top h a ≡ a
  pub second_end : refers top h b ≡ b
  pub apart : a ≢ b

module _ {K : Type 0} (top : K) (h : Heap K) (g : Good top h) (a b : ℕ) (k : K) (x : Apart top h a b) where
  abbrev narrowed : List (Cell K)
  narrowed = put_kind top h.cells a k

  first_room : a < length h.cells
  first_room = omega (arith, g.room, x.first_in)

  second_room : b < length narrowed
  second_room = rw put_kind_length (omega (arith, g.room, x.second_in))

  pub bind_new : refers top (bind top a b k h) b ≡ a
  bind_new = put_refers_here top narrowed b a second_room

  pub bind_old : (i : ℕ) → i ≢ b → refers top (bind top a b k h) i ≡ refers top h i
  bind_old i ne = put_refers_there top narrowed b a i ne ∙ put_kind_refers top h.cells a k i first_room

  pub bind_kind : kind top (bind top a b k h) a ≡ k
  bind_kind = put_refers_kind top narrowed b a a second_room ∙ put_kind_here top h.cells a k first_room

  pub bind_kinds : (i : ℕ) → i ≢ a → kind top (bind top a b k h) i ≡ kind top h i
  bind_kinds i ne = put_refers_kind top narrowed b a i second_room ∙ put_kind_there top h.cells a k i ne

  -- one cell more refers elsewhere
  pub bind_away : away (refers top (bind top a b k h)) h.used ≡ suc (away (refers top h) h.used)
  bind_away = away_more (refers top h) (refers top (bind top a b k h)) a b x.apart x.first_end x.second_end bind_new bind_old h.used x.second_in

  bind_reaches : (i : ℕ) → i < h.used → Reaches (refers top (bind top a b k h)) (suc (away (refers top h) h.used)) i
  bind_reaches i l =
      let (n, le, e) = g.reaches i l in
      let (m, less, q) = reach_moved (refers top h) (refers top (bind top a b k h)) a b x.apart x.first_end x.second_end bind_new bind_old n i e in
      (m, omega arith, q)

  pub good_bind : Good top (bind top a b k h)
  good_bind = record {
    room = rw bind_length g.room;
    size = rw bind_length g.size;
    inside = λ i l. elim (cases_eq i b) [ inl e ↦ rw (e, bind_new) x.first_in | inr n ↦ rw (bind_old i n) (g.inside i l) ];
    reaches = λ i l. rw bind_away (bind_reaches i l);
    held = g.held;
    fresh_refers = λ i l. bind_old i (λ e. omega (arith, x.second_in)) ∙ g.fresh_refers i l;
    fresh_kind = λ i l. bind_kinds i (λ e. omega (arith, x.first_in)) ∙ g.fresh_kind i l;
    fresh_slot = g.fresh_slot;
  }

module _ {K : Type 0} (top : K) (h : Heap K) (g : Good top h) (a f j : ℕ) (la : a < h.used) (lf : f < h.features) where
  pub fill_here : slot (fill h a f j) a f ≡ Some j
  fill_here = put_slot_here h.slots h.features a f j lf (length h.cells) (omega (arith, g.room)) g.size

  pub fill_there : (i n : ℕ) → n < h.features → (i ≢ a) ⊎ (n ≢ f) → slot (fill h a f j) i n ≡ slot h i n
  fill_there = put_slot_there h.slots h.features a f j lf

  module _ (lj : j < h.used) where
    fill_held : (i n k : ℕ) → i < h.used → n < h.features → slot (fill h a f j) i n ≡ Some k → k < h.used
    fill_held i n k l ln e =
        let keeps : (i ≢ a) ⊎ (n ≢ f) → k < h.used = λ ne. g.held i n k l ln (sym (fill_there i n ln ne) ∙ e) in
        let here : i ≡ a → n ≡ f → k < h.used = λ x y. let q : j ≡ k = cc fill_here in omega arith in
        elim (cases_eq i a) [ inl x ↦ elim (cases_eq n f) [ inl y ↦ here x y | inr y ↦ keeps (inr y) ] | inr x ↦ keeps (inl x) ]

    pub good_fill : Good top (fill h a f j)
    good_fill = record {
      room = g.room;
      size = rw put_slot_length g.size;
      inside = g.inside;
      reaches = g.reaches;
      held = fill_held;
      fresh_refers = g.fresh_refers;
      fresh_kind = g.fresh_kind;
      fresh_slot = λ i n l ln. fill_there i n ln (inl (λ e. omega arith)) ∙ g.fresh_slot i n l ln;
    }
