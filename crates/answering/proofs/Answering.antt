-- What answers a file: what is tried in a book, or the refusal.
use Rattle.std.proofs.Common.{◌≡◌, ℕ, List, [], ◌∷◌, ◌++◌, map, length, Ok, Err, Result, codes, Vec, vec_items, sym}
use Rattle.std.proofs.lemmas.Simd.{map-map}
use Rattle.std.proofs.lemmas.Result.{IfOk-weaker}
use Rattle.std.specs.Result.{IfOk}
use Rattle.refusals.specs.declared.Refusal.{Refusal}
use Rattle.refusals.specs.Table.{row, printed}
use Rattle.orders.specs.Meaning.{Meaning}
use Rattle.orders.specs.Texts.{Texts}
use Rattle.grammar.specs.Lawful.{statements}
use Rattle.features.specs.Model.{feature_names}
use Rattle.terms.specs.Terms.{said_of}
use Rattle.compiler.specs.Views.{statements_in}
use Rattle.kinds.specs.Lists.{Closing}
use Rattle.files.specs.Reads.{contents, FileRead}
use Rattle.files.specs.declared.lines.reads.Book.{Book}
use Rattle.trials.specs.Shown.{trials_shown}
use Rattle.trials.specs.Trials.{trials}
use Rattle.answering.specs.Answers.{Answers}

module _ {K O : Type 0} (made : Closing → O) (meaning : O → Meaning K) (texts : O → Texts K) (file : List ℕ) (b : Book K O) where
  -- the text of the trials of the book
  abbrev shown : List ℕ
  shown = trials_shown (texts b.order) (trials (meaning b.order) (length (feature_names b.features)) (map statements_in (vec_items b.entries)) (map statements_in (vec_items b.rules)))

  answers : (text : List ℕ) → FileRead made (λ l. texts (made l)) file (Ok b) → text ≡ shown → Answers (λ l. meaning (made l)) (λ l. texts (made l)) file text
  unfolding FileRead
  answers text (l, is, f) e = (Ok (contents made (λ l. texts (made l)) l b), f, rw (sym is, map-map statements said_of (vec_items b.entries), map-map statements said_of (vec_items b.rules)) e)

  pub tried : {Z E : Type 0} (r : Result (Vec ℕ Z) E) → FileRead made (λ l. texts (made l)) file (Ok b) → IfOk r (λ text. vec_items text ≡ shown)
      → IfOk r (λ text. Answers (λ l. meaning (made l)) (λ l. texts (made l)) file (vec_items text))
  tried r f h =
      IfOk-weaker r (λ text. vec_items text ≡ shown) (λ text. Answers (λ l. meaning (made l)) (λ l. texts (made l)) file (vec_items text)) (λ text e. answers (vec_items text) f e) h

module _ {K O : Type 0} (made : Closing → O) (meaning : O → Meaning K) (texts : O → Texts K) (file : List ℕ) (e : Refusal) where
  abbrev told : List ℕ
  told = codes "file refused " ++ (printed (row e) ++ 10 ∷ [])

  tells : (text : List ℕ) → FileRead {O = O} made (λ l. texts (made l)) file (Err e) → text ≡ told → Answers (λ l. meaning (made l)) (λ l. texts (made l)) file text
  unfolding FileRead
  tells text f is = (Err e, f, is)

  pub refused : {Z E : Type 0} (r : Result (Vec ℕ Z) E) → FileRead {O = O} made (λ l. texts (made l)) file (Err e) → IfOk r (λ text. vec_items text ≡ told)
      → IfOk r (λ text. Answers (λ l. meaning (made l)) (λ l. texts (made l)) file (vec_items text))
  refused r f h =
      IfOk-weaker r (λ text. vec_items text ≡ told) (λ text. Answers (λ l. meaning (made l)) (λ l. texts (made l)) file (vec_items text)) (λ text is. tells (vec_items text) f is) h
