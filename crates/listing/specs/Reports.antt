-- What reporting a line does: the line is read into a term, and the text says what reading answered.
use Rattle.std.specs.Prelude.{◌≡◌, ℕ, true, List, is_err, IfOk, Result}
use Rattle.refusals.specs.declared.Refusal.{Refusal}
use Rattle.orders.specs.Texts.{Texts}
use Rattle.grammar.specs.Lines.{Answers}
use Rattle.terms.specs.declared.term.Term.{Term}
use Rattle.terms.specs.Terms.{said_of, room_of}
use Rattle.listing.specs.Shown.{shown}

module _ {K V E : Type 0} (m : Texts K) (features : List (List ℕ)) (line : List ℕ) where
  -- what reading the line into the term answers, and that a refused line leaves the term as it was; these hold also where memory for
  -- the text runs out, and where it does not, the bytes of `r` are the text of the answer
  pub record Reports (before after : Term K) (bytes : V → List ℕ) (r : Result V E) : Type 0 where
    pub outcome : Result (Unit {0}) Refusal
    pub answers : Answers m features (room_of before) line (said_of after) outcome
    pub kept : is_err outcome ≡ true → after ≡ before
    pub shows : IfOk r (λ v. bytes v ≡ shown m features (said_of after) outcome)
