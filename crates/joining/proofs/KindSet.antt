-- A cell in use gets another kind: nothing else changes.
use Rattle.std.proofs.Common.{ap, arith, length, ℕ, ◌<◌, ◌∙◌, ◌≡◌, ◌≢◌}
use Rattle.joining.specs.Good.{Good, Reaches, away}
use Rattle.joining.specs.Heap.{Heap, end, follow, kind, refers, set_kind}
use Rattle.joining.proofs.Follow.{away_agrees, follow_alike}
use Rattle.joining.proofs.Writes.{put_kind_here, put_kind_length, put_kind_refers, put_kind_there}

module _ {K : Type 0} (top : K) (h : Heap K) (g : Good top h) (e : ℕ) (k : K) (le : e < h.used) where
  room_e : e < length h.cells
  room_e = omega (arith, g.room)

  pub set_kind_length : length (set_kind top h e k).cells ≡ length h.cells
  set_kind_length = put_kind_length top h.cells e k

  pub set_kind_refers : (i : ℕ) → refers top (set_kind top h e k) i ≡ refers top h i
  set_kind_refers i = put_kind_refers top h.cells e k i room_e

  pub set_kind_here : kind top (set_kind top h e k) e ≡ k
  set_kind_here = put_kind_here top h.cells e k room_e

  pub set_kind_there : (i : ℕ) → i ≢ e → kind top (set_kind top h e k) i ≡ kind top h i
  set_kind_there i ne = put_kind_there top h.cells e k i ne

  pub set_kind_end : (i : ℕ) → end top (set_kind top h e k) i ≡ end top h i
  set_kind_end i =
      ap (λ n. follow (refers top (set_kind top h e k)) n i) set_kind_length
      ∙ follow_alike (refers top h) (refers top (set_kind top h e k)) set_kind_refers (length h.cells) i

  set_kind_reaches : (i : ℕ) → i < h.used → Reaches (refers top (set_kind top h e k)) (away (refers top h) h.used) i
  set_kind_reaches i l =
      let (n, less, q) = g.reaches i l in
      (n, less, rw (follow_alike (refers top h) (refers top (set_kind top h e k)) set_kind_refers n i, set_kind_refers (follow (refers top h) n i)) q)

  pub good_set_kind : Good top (set_kind top h e k)
  good_set_kind = record {
    room = rw set_kind_length g.room;
    size = rw set_kind_length g.size;
    inside = λ i l. rw (set_kind_refers i) (g.inside i l);
    reaches = λ i l. rw (away_agrees (refers top h) (refers top (set_kind top h e k)) h.used (λ j lj. set_kind_refers j)) (set_kind_reaches i l);
    held = g.held;
    fresh_refers = λ i l. set_kind_refers i ∙ g.fresh_refers i l;
    fresh_kind = λ i l. set_kind_there i (λ q. omega arith) ∙ g.fresh_kind i l;
    fresh_slot = g.fresh_slot;
  }
