-- A term from its parts.
use Rattle.std.proofs.Common.{◌≡◌, ℕ, ◌+◌, ◌<◌, ◌≤◌, Bool, true, List, [], ◌∷◌, ◌++◌, length, Some, None, Ok, Err, Option, Result, sym, refl, ap, ◌∙◌, subst, append-nil, arith}
use Rattle.std.proofs.lemmas.Bool.{ne_eqb, false≢true}
use Rattle.refusals.specs.declared.Refusal.{Refusal}
use Rattle.grammar.specs.declared.statement.Statement.TheVariants.{Kind}
use Rattle.grammar.specs.Scanner.{state, closed, here}
use Rattle.grammar.specs.Trees.{bare, described, none, item, label, written, listing, LawfulTree}
use Rattle.grammar.specs.Told.{Told, subject, introduce, say, tell, tell_items}
use Rattle.grammar.specs.Words.{is_variable, is_text}
use Rattle.reading.specs.declared.notes.Notes.{Notes}
use Rattle.reading.specs.declared.reader.Link.{Link}
use Rattle.reading.specs.declared.reader.Head.TheVariants.{Bare, Described}
use Rattle.reading.specs.declared.reader.Body.TheVariants.{Ends, Opens}
use Rattle.reading.specs.Links.{linked, links}
use Rattle.reading.specs.Notes.{noted, variables, statements}
use Rattle.reading.specs.Reading.{Spans, Ended, HeadRead, BodyRead, TermRead, ListRead, RoomAt}
use Rattle.reading.proofs.Spanning.{spans_join}

word_some : (first other : ℕ → Bool) (w : List ℕ) → Rattle.grammar.specs.Words.is_word first other w ≡ true → 0 < length w
word_some first other [] h = absurd (false≢true h)
word_some first other (b ∷ bs) h = omega arith

pub closed-ends : (line : List ℕ) (i d : ℕ) → here line i ≡ Some (state closed d) → Ended line i d
closed-ends line i d e = record { last = closed; state_is = e; closes = λ L l. refl; inside = λ l. ne_eqb d 0 (λ z. omega arith) }

subject-linked : (o : Option (List ℕ)) (from : Option Link) (y : ℕ) (t : Told) → subject o (linked from y t) ≡ subject o t
subject-linked (Some n) from y t = refl
subject-linked None from y t = refl

module _ (features : List (List ℕ)) (line : List ℕ) (from : Option Link) (i d : ℕ) (n m1 : Notes) (room : RoomAt i from n) (few : variables m1 ≤ variables n + 1) (fewer : statements m1 ≤ statements n + links from) where
  pub bare-read : (j : ℕ) → HeadRead line from i d (noted line n) (noted line m1) (Ok (Bare j)) → TermRead features line from i d n m1 (Ok j)
  unfolding LawfulTree written tell
  bare-read j h =
      let (l, w, lawful, spans, ended, told) = h in
      let some = word_some _ _ w lawful.0 in
      (bare w, lawful, spans, ended, told, (omega (arith, spans.end), omega (arith, spans.end)))

  module _ (x k : ℕ) (h : HeadRead line from i d (noted line n) (noted line m1) (Ok (Described x k))) (m2 : Notes) (same : variables m2 ≡ variables m1) (one : statements m2 ≤ statements m1 + 1) where
    -- the kind statement after the front
    kind_told : (w : List ℕ) → noted line m2 ≡ say (Kind x w) k (noted line m1)
        → noted line m2 ≡ say (Kind (subject h.1 (linked from (subject h.1 (noted line n)) (noted line n))) w) (i + length (label h.1)) (introduce h.1 i (linked from (subject h.1 (noted line n)) (noted line n)))
    kind_told w e =
        let (l, o, lawful, spans, kind, number, told) = h in
        let t = noted line n in
        e ∙ ap (say (Kind x w) k) (told ∙ ap (λ y. introduce o i (linked from y t)) number)
        ∙ ap (λ y. say (Kind y w) k (introduce o i (linked from (subject o t) t))) (number ∙ sym (subject-linked o from (subject o t) t))
        ∙ ap (λ q. say (Kind (subject o (linked from (subject o t) t)) w) q (introduce o i (linked from (subject o t) t))) (sym spans.end)

    pub ends_read : (j : ℕ) → BodyRead line x k d (noted line m1) (noted line m2) (Ok (Ends j)) → TermRead features line from i d n m2 (Ok j)
    unfolding LawfulTree written tell
    ends_read j b =
        let (l, o, lawful, spans, kind, number, told) = h in
        let (w, text, bytes, ended, said) = b in
        let some = word_some _ _ w text in
        let whole : Spans line i j (label o ++ (w ++ [])) = subst (λ v. Spans line i j (label o ++ v)) (sym (append-nil w)) (spans_join spans bytes) in (
          described o w none,
          (lawful, text, tt),
          whole,
          ended,
          kind_told w said,
          (omega (arith, spans.end, bytes.end), omega (arith, spans.end, bytes.end)),
        )

    pub opens_read : (j : ℕ) → BodyRead line x k d (noted line m1) (noted line m2) (Ok (Opens j)) → (m3 : Notes) (r : Result ℕ Refusal) → ListRead features line x [] j d m2 m3 r → TermRead features line from i d n m3 r
    unfolding LawfulTree written tell
    opens_read j b m3 (Ok e) g =
        let (l, o, lawful, spans, kind, number, told) = h in
        let (w, text, bytes, mark, at, shallow, said) = b in
        let (f, u, rest, items, inner, end, list, after) = g in
        let t = noted line n in
        let whole : Spans line i e (label o ++ (w ++ listing (item f u rest))) = spans_join spans (spans_join bytes (spans_join mark inner)) in
        let here-list : tell_items features (item f u rest) x [] j (noted line m2) ≡ tell_items features (item f u rest) (subject o (linked from (subject o t) t)) [] (i + length (label o) + length w) (say (Kind (subject o (linked from (subject o t) t)) w) (i + length (label o)) (introduce o i (linked from (subject o t) t))) =
        ap (λ y. tell_items features (item f u rest) y [] j (noted line m2)) (number ∙ sym (subject-linked o from (subject o t) t))
        ∙ ap (λ q. tell_items features (item f u rest) (subject o (linked from (subject o t) t)) [] q (noted line m2)) (sym bytes.end ∙ ap (λ q. q + length w) (sym spans.end))
        ∙ ap (tell_items features (item f u rest) (subject o (linked from (subject o t) t)) [] (i + length (label o) + length w)) (kind_told w said) in (
          described o w (item f u rest),
          (lawful, text, (shallow, items.0, items.1, items.2, items.3)),
          whole,
          closed-ends line e d end,
          list ∙ here-list,
          after,
        )
    opens_read j b m3 (Err e) g = g
