use Rattle.std.proofs.Common.{[], ◌∷◌, refl}
use Rattle.hol_terms.proofs.AsciiNames.{is_segment_from_ascii}
use Rattle.kernel_tests.proofs.definitions.identity.Goals as goal

pub returns : goal.returns
returns c =
    λ ds. rw (c.in_ok-t.ensures, c.in_ok-body.ensures, c.in_ok-x.ensures, c.in_ok-ty.ensures) (is_segment_from_ascii (97 ∷ []) refl, (refl, is_segment_from_ascii (97 ∷ []) refl))
