-- Readings of some texts, which compute.
use Rattle.std.proofs.Common.{refl}
use Rattle.std.specs.Str.{chars}
use lib.Utf8.{encode}
use Rattle.hol_terms.specs.Rules.{same_ty}
use Rattle.hol_terms.specs.Tokens.{tokens}
use Rattle.hol_terms.specs.Meaning.{applied, function, constant, fitted, apply, equation, connective, negation, quantified}
use Rattle.hol_terms.specs.Reading.{types_at, dtype_at, type_at, typed_at, braces_at, atom_at, atoms_at, application_at, bound_at, body_at, binder_at, term_at, reading_of_type, reading_of_term}
use Rattle.hol_text.specs.Samples.{TypesReadSo, TermsReadSo}

pub types_read_so : TypesReadSo
unfolding reading_of_type tokens chars encode type_at dtype_at types_at applied function
types_read_so = record { arrows = refl; fun_is_an_arrow = refl; unknown_name = refl; too_short = refl }

pub terms_read_so : TermsReadSo
unfolding reading_of_term tokens chars encode type_at dtype_at types_at applied function constant fitted apply equation connective negation quantified typed_at braces_at atom_at atoms_at application_at bound_at body_at binder_at term_at same_ty
terms_read_so = record { sugar = refl; binder = refl; braces = refl; two_variables = refl; dotted_binder = refl; unknown_name = refl; no_function = refl }
