-- A shelf of terms, one of which is read anew.
use Rattle.std.proofs.Common.{◌≡◌, ℕ, suc, ◌+◌, ◌<◌, ◌≤◌, Ok, List, [], ◌∷◌, ◌++◌, map, replicate, length, take, slice_index_or, slice_set, vec_items, sym, ap, ◌∙◌, refl, subst, arith}
use Rattle.std.proofs.lemmas.List.{length-map, length-replicate, get_or-replicate, map-append, replicate-append-replicate}
use Rattle.std.proofs.Math.ListN.{get_or-map}
use Rattle.std.proofs.Math.Seq.{map-set_same, take-suc-set}
use Rattle.std.specs.Vec.{with_item}
use Rattle.refusals.specs.declared.Refusal.{Refusal}
use Rattle.orders.specs.Texts.{Texts}
use Rattle.features.specs.Model.{feature_names}
use Rattle.grammar.specs.Lines.{Accepts, Refuses}
use Rattle.terms.specs.declared.term.Term.{Term}
use Rattle.terms.specs.Terms.{said_of, room_of}
use Rattle.files.specs.Files.{TakesTerm}
use Rattle.files.specs.Shelves.{Empty, Ready, Filled, said_in, terms_of}
use Rattle.files.specs.declared.lines.shelf.Shelf.{Shelf}

module _ {K : Type 0} (terms : List (Term K)) (n : ℕ) (rooms : Empty terms) (more : n < 200) where
  pub many : length terms ≡ 200
  many = sym (length-map terms room_of) ∙ ap length rooms ∙ length-replicate {A = ℕ} 200 399

  pub room : (d : Term K) → room_of (slice_index_or terms n d) ≡ 399
  room d = sym (get_or-map room_of terms n d) ∙ ap (λ xs. slice_index_or xs n (room_of d)) rooms ∙ get_or-replicate 200 n 399 (room_of d) more

  -- the terms stay as they are but for this one
  pub rooms_kept : (t : Term K) → room_of t ≡ 399 → Empty (slice_set terms n t)
  rooms_kept t e = map-set_same room_of terms n t t (e ∙ sym (room t)) ∙ rooms

  pub one_read : (t : Term K) → said_in (n + 1) (slice_set terms n t) ≡ said_in n terms ++ said_of t ∷ []
  one_read t =
      let e : suc n ≡ n + 1 = omega arith in
      subst (λ k. said_in k (slice_set terms n t) ≡ said_in n terms ++ said_of t ∷ []) e
      (ap (map said_of) (take-suc-set terms n t (omega (arith, more, many))) ∙ map-append said_of (take n terms) (t ∷ []))

-- one more term with memory for as many statements
pub room_more : {K : Type 0} (terms more : List (Term K)) (t : Term K) (n : ℕ) → map room_of terms ≡ replicate n 399 → room_of t ≡ 399 → more ≡ terms ++ t ∷ [] → map room_of more ≡ replicate (n + 1) 399
room_more terms more t n rooms room is = rw (is, map-append room_of terms (t ∷ []), rooms, room) (replicate-append-replicate n 1 399)

module _ {K O : Type 0} (s : Shelf K O) (ready : Ready s) where
  -- the shelf with the next term read
  abbrev pub one_more : Term K → Shelf K O
  one_more t = record { order = s.order; features = s.features; terms = with_item s.terms s.filled t; filled = s.filled + 1 }

  pub not_full : length (vec_items s.terms) ≤ s.filled → ⊥
  not_full l = omega (arith, l, ready.more, many (vec_items s.terms) s.filled ready.rooms ready.more)

  module _ (m : Texts K) (line : List ℕ) (t : Term K) (next : t ≡ slice_index_or (vec_items s.terms) s.filled t) where
    room_is : room_of t ≡ 399
    room_is = ap room_of next ∙ room (vec_items s.terms) s.filled ready.rooms ready.more t

    pub refused : (e : Refusal) → Refuses m (feature_names s.features.now) (room_of t) line e → Refuses m (feature_names s.features.now) 399 line e
    refused e h = subst (λ n. Refuses m (feature_names s.features.now) n line e) room_is h

    pub taken : (u : Term K) → room_of u ≡ room_of t → Accepts m (feature_names s.features.now) (room_of t) line (said_of u)
        → TakesTerm m (feature_names s.features.now) (terms_of s) line (terms_of (one_more u)) (Ok s.filled) × Filled s (one_more u)
    taken u kept h = (
      (said_of u, subst (λ n. Accepts m (feature_names s.features.now) n line (said_of u)) room_is h, one_read (vec_items s.terms) s.filled ready.rooms ready.more u),
      record { filled = refl; rooms = rooms_kept (vec_items s.terms) s.filled ready.rooms ready.more u (kept ∙ room_is); order = refl; features = refl },
    )
