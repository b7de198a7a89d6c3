-- A file section by section, once its list is closed; and from its start.
use Rattle.std.proofs.Common.{◌≡◌, ℕ, List, [], ◌∷◌, Ok, Err, Result, refl, subst}
use Rattle.refusals.specs.declared.Refusal.{Refusal}
use Rattle.orders.specs.Texts.{Texts}
use Rattle.declarations.specs.Declarations.{Declaration, any}
use Rattle.declarations.specs.Lines as kind_lines
use Rattle.features.specs.Lines as feature_lines
use Rattle.grammar.specs.declared.statement.Said.{Said}
use Rattle.kinds.specs.Lists.{Closing}
use Rattle.files.specs.Reads.{contents, ListsRead, FileRead}
use Rattle.files.specs.declared.lines.reads.Book.{Book}
use Rattle.files.specs.Lines.{Then}
use Rattle.files.specs.Files.{Section, Closed, TakesTerm, Contents, Lists, File, over, short}

same_refusal : {A : Type 0} (e : Refusal) → ◌≡◌ {A = Result A Refusal} (Err e) (Err e)
same_refusal e = refl

module _ {K : Type 0} (texts : Closing → Texts K) (file : List ℕ) where
  module _ (s : ℕ) (l : Closing) where
    pub features_refused : (e : Refusal) → Section feature_lines.Declares 16 file s [] (Err e) → Lists texts file s l (Err e)
    features_refused e h = (Err e, h, same_refusal e)

    module _ (fs : List (List ℕ)) (entries_at : ℕ) (hf : Section feature_lines.Declares 16 file s [] (Ok (fs, entries_at))) where
      pub entries_refused : (e : Refusal) → Section (TakesTerm (texts l) fs) 200 file entries_at [] (Err e) → Lists texts file s l (Err e)
      entries_refused e h = (Ok (fs, entries_at), hf, (Err e, h, same_refusal e))

      module _ (es : List (List (Said K))) (rules_at : ℕ) (he : Section (TakesTerm (texts l) fs) 200 file entries_at [] (Ok (es, rules_at))) where
        pub rules_refused : (e : Refusal) → Section (TakesTerm (texts l) fs) 200 file rules_at [] (Err e) → Lists texts file s l (Err e)
        rules_refused e h = (Ok (fs, entries_at), hf, (Ok (es, rules_at), he, (Err e, h, same_refusal e)))

        module _ (us : List (List (Said K))) (end : ℕ) (hu : Section (TakesTerm (texts l) fs) 200 file rules_at [] (Ok (us, end))) where
          ends : (o : Result (Unit {0}) Refusal) → o ≡ over file end → (r : Result (Contents K) Refusal)
              → Then o (λ _. r ≡ Ok (record { list = l; features = fs; entries = es; rules = us })) r → Lists texts file s l r
          ends o e r h =
              (Ok (fs, entries_at), hf, (Ok (es, rules_at), he, (Ok (us, end), hu, subst (λ o. Then o (λ _. r ≡ Ok (record { list = l; features = fs; entries = es; rules = us })) r) e h)))

          pub end_refused : (e : Refusal) → Err e ≡ over file end → Lists texts file s l (Err e)
          end_refused e q = ends (Err e) q (Err e) (same_refusal e)

          pub all_read : Ok tt ≡ over file end → Lists texts file s l (Ok (record { list = l; features = fs; entries = es; rules = us }))
          all_read q = ends (Ok tt) q (Ok (record { list = l; features = fs; entries = es; rules = us })) refl

  starts : (o : Result (Unit {0}) Refusal) → o ≡ short file → (r : Result (Contents K) Refusal)
      → Then o (λ _. (k : Result (List Declaration × ℕ) Refusal) × Section (kind_lines.Declares 64) 63 file 0 (any ∷ []) k × Then k (λ ks.
      (l : Result Closing Refusal) × Closed ks.0 l × Then l (λ list. Lists texts file ks.1 list r) r) r) r → File texts file r
  starts o e r h =
      subst (λ o. Then o (λ _. (k : Result (List Declaration × ℕ) Refusal) × Section (kind_lines.Declares 64) 63 file 0 (any ∷ []) k × Then k (λ ks.
      (l : Result Closing Refusal) × Closed ks.0 l × Then l (λ list. Lists texts file ks.1 list r) r) r) r) e h

  module _ (fits : Ok tt ≡ short file) (ds : List Declaration) (features_at : ℕ) (hk : Section (kind_lines.Declares 64) 63 file 0 (any ∷ []) (Ok (ds, features_at))) where
    pub closed_read : (l : Closing) → Closed ds (Ok l) → (r : Result (Contents K) Refusal) → Lists texts file features_at l r → File texts file r
    closed_read l c r h = starts (Ok tt) fits r (Ok (ds, features_at), hk, (Ok l, c, h))

    -- what is read once the list is closed makes what the file says
    pub file_read : {O : Type 0} (made : Closing → O) (l : Closing) → Closed ds (Ok l) → (r : Result (Book K O) Refusal) → ListsRead made texts file features_at l r → FileRead made texts file r
    unfolding FileRead
    file_read made l c (Ok b) h = (l, h.0, closed_read l c (Ok (contents made texts l b)) h.1)
    file_read made l c (Err e) h = closed_read l c (Err e) h

-- terms that are read with the order that is made of a list
pub with_made : {K O : Type 0} (texts : O → Texts K) (o m : O) → o ≡ m → (fs : List (List ℕ)) (file : List ℕ) (s : ℕ) (r : Result (List (List (Said K)) × ℕ) Refusal)
    → Section (TakesTerm (texts o) fs) 200 file s [] r → Section (TakesTerm (texts m) fs) 200 file s [] r
with_made texts o m is fs file s r h = subst (λ t. Section (TakesTerm (texts t) fs) 200 file s [] r) is h
