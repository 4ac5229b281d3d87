-- What the public reader answered, beside what a text is.
use Rattle.std.specs.Prelude.{◌≡◌, Result, Ok, Err, string_bytes}
use Rattle.hol_terms.specs.Reading as Read
use Rattle.hol_terms.specs.Reading.{Reading}
use Rattle.hol_text.specs.declared.read.ReadError.{ReadError}
use Rattle.hol_text.specs.declared.read.ReadError.TheVariants.{Syntax, Unknown, IllTyped, Memory}

-- each answer but want of memory is what the text is
abbrev pub Answers : {A : Type 0} → Result A ReadError → Reading A → Type 0
Answers (Ok x) r = r ≡ Read.reads x
Answers (Err (Syntax p)) r = r ≡ Read.no_syntax p
Answers (Err (Unknown n p)) r = r ≡ Read.unknown (string_bytes n) p
Answers (Err (IllTyped p)) r = r ≡ Read.ill_typed p
Answers (Err Memory) r = Unit {0}
