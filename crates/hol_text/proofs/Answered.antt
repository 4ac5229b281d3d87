-- What was read is well formed and well typed.
use Rattle.std.proofs.Common.{List, [], ℕ, Result, Ok, Err, IfOk}
use Rattle.std.specs.Str.{IsUtf8}
use Rattle.hol_terms.specs.Ty.{Ty}
use Rattle.hol_terms.specs.Tm.{Tm}
use Rattle.hol_terms.specs.Signature.{Signature, IsTyOver, IsOver}
use Rattle.hol_text.specs.Answers.{Answers}
use Rattle.hol_text.specs.Over.{GivesTypes}
use Rattle.hol_terms.specs.Reading.{reading_of_type, reading_of_term}
use Rattle.hol_text.specs.declared.read.ReadError.{ReadError}
use Rattle.hol_text.proofs.OverTerms.{type_read-over, term_read-over}

pub answered-type : (s : Signature) (text : List ℕ) (r : Result Ty ReadError) → IsUtf8 text → Answers r (reading_of_type s text) → IfOk r (λ t. IsTyOver s t)
answered-type s text (Ok t) u e = type_read-over s text t u e
answered-type s text (Err e) u h = tt

pub answered-term : (s : Signature) (text : List ℕ) (r : Result Tm ReadError) → IsUtf8 text → Answers r (reading_of_term s text) → GivesTypes s → IfOk r (λ t. IsOver s [] t)
answered-term s text (Ok t) u e k = term_read-over s text t k u e
answered-term s text (Err e) u h k = tt
