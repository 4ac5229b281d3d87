-- Names, numbers, and canonical texts over names have no newline.
use Rattle.std.proofs.Common.{◌≡◌, Bool, true, ◌++◌, refl, arith}
use Rattle.hol_terms.specs.Text.{Text}
use Rattle.log_laws.proofs.Lacking.{lacks, lacks_append, IsForeign, IsNoType, IsNoTerm}

-- no byte is a newline
abbrev pub is_line : Text → Bool
is_line bs = lacks 10 bs

pub line_append : (a b : Text) → is_line a ≡ true → is_line b ≡ true → is_line (a ++ b) ≡ true
line_append a b h k = lacks_append 10 a b h k

pub foreign : IsForeign 10
foreign = record { ascii = omega arith; start = refl; more = refl; dot = refl; digit = refl }

pub no_type : IsNoType 10
no_type = record { foreign = foreign; types = refl }

pub no_term : IsNoTerm 10
no_term = record { outside = no_type; terms = refl }
