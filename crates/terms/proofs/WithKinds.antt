-- Noted statements that are read one by one, each with its kind.
use Rattle.std.proofs.Common.{◌≡◌, ℕ, ◌+◌, ◌<◌, true, false, List, [], ◌∷◌, ◌++◌, map, length, get_or, take, drop, is_some, Some, None, Option, sym, refl, ap, ◌∙◌, subst}
use Rattle.std.proofs.lemmas.List.{take-append-drop, drop_more, map_more, map-append}
use Rattle.std.proofs.lemmas.Bool.{false≢true}
use Rattle.orders.specs.Texts.{Texts}
use Rattle.grammar.specs.declared.statement.Statement.{Statement}
use Rattle.grammar.specs.declared.statement.Statement.TheVariants.{Kind, Feature}
use Rattle.grammar.specs.declared.statement.Said.{Said}
use Rattle.grammar.specs.Lines.{WrongKind}
use Rattle.grammar.specs.Only.{OnlyStatement, OnlyReads}
use Rattle.grammar.proofs.OnlyKinds.{only_snoc, only_reads, read_not_wrong}
use Rattle.reading.specs.declared.span.Span.{Span}
use Rattle.reading.specs.Notes.{statement_in, said_in}
use Rattle.terms.specs.Kinds.{StatementOf, NoStatement, Readable}

-- a list, by what stands at i
split-map : {X Y : Type 0} (f : X → Y) (xs : List X) (i : ℕ) (d : X) → i < length xs → map f xs ≡ map f (take i xs) ++ f (get_or xs i d) ∷ map f (drop (i + 1) xs)
split-map f xs i d l =
    ap (map f) (sym (take-append-drop i xs) ∙ ap (λ ys. take i xs ++ ys) (drop_more xs i d l))
    ∙ map-append f (take i xs) (get_or xs i d ∷ drop (i + 1) xs)

module _ {K : Type 0} (m : Texts K) where
  wrong-here : (ss before behind : List (Said (List ℕ))) (s : Statement (List ℕ)) (p : ℕ) →
      ss ≡ before ++ record { statement = s; place = p } ∷ behind → Readable m before → NoStatement m s → WrongKind m ss p
  wrong-here ss before behind (Kind x t) p e r w =
      record {
        before = before;
        subject = x;
        text = t;
        behind = behind;
        split = e;
        kinds = r.0;
        read = only_reads m before r.0 r.1;
        wrong = w;
      }
  wrong-here ss before behind (Feature x f y) p e r w = absurd w

  pub read_none : (us : List (Said K)) → us ≡ [] → OnlyReads m [] us
  read_none us e = subst (OnlyReads m []) (sym e) tt

  -- what was read is a statement, unless its text has no kind
  pub some_statement : (s : Statement (List ℕ)) (r : Option (Statement K)) → StatementOf m s r → (NoStatement m s → ⊥) → is_some r ≡ true
  some_statement s (Some u) h n = refl
  some_statement s None h n = absurd (n h)

  pub that_statement : (s : Statement (List ℕ)) (r : Option (Statement K)) (u : Statement K) → StatementOf m s r → r ≡ Some u → OnlyStatement m s u
  that_statement s r u h e = subst (StatementOf m s) e h

  -- the same, by whether a statement was read
  pub no_kind : (s : Statement (List ℕ)) (r : Option (Statement K)) → StatementOf m s r → is_some r ≡ false → NoStatement m s
  no_kind s (Some u) h e = absurd (false≢true (sym e))
  no_kind s None h e = h

  pub its_statement : (s : Statement (List ℕ)) (r : Option (Statement K)) → StatementOf m s r → is_some r ≡ true → (u : Statement K) × OnlyStatement m s u
  its_statement s (Some u) h e = (u, h)
  its_statement s None h e = absurd (false≢true e)

  module _ (line : List ℕ) (xs : List (Said Span)) (d : Said Span) (i : ℕ) (l : i < length xs) where
    pub read_more : (us : List (Said K)) (u : Statement K) → OnlyReads m (map (said_in line) (take i xs)) us →
        OnlyStatement m (statement_in line (get_or xs i d).statement) u →
        OnlyReads m (map (said_in line) (take (i + 1) xs)) (us ++ record { statement = u; place = (get_or xs i d).place } ∷ [])
    read_more us u h o =
        subst (λ ss. OnlyReads m ss (us ++ record { statement = u; place = (get_or xs i d).place } ∷ [])) (sym (map_more (said_in line) xs i d l))
        (only_snoc m (map (said_in line) (take i xs)) us (said_in line (get_or xs i d)) (record { statement = u; place = (get_or xs i d).place }) h o refl)

    pub wrong_at : Readable m (map (said_in line) (take i xs)) → NoStatement m (statement_in line (get_or xs i d).statement) →
        WrongKind m (map (said_in line) xs) (get_or xs i d).place
    wrong_at r w =
        wrong-here _ (map (said_in line) (take i xs)) _ (statement_in line (get_or xs i d).statement) (get_or xs i d).place (split-map (said_in line) xs i d l) r w

    -- where all can be read, this one can
    pub no_wrong : Readable m (map (said_in line) (take i xs)) → Readable m (map (said_in line) xs) → NoStatement m (statement_in line (get_or xs i d).statement) → ⊥
    no_wrong r all w =
        read_not_wrong m (map (said_in line) xs) all.0 (get_or xs i d).place (only_reads m _ all.0 all.1) (wrong_at r w)
