-- What a sink gained.
use Rattle.std.proofs.Common.{◌≡◌, ap, sym, ◌∙◌, subst, length, take_all, Option, arith}
use Rattle.hol_terms.specs.Text.{Text}
use Rattle.hb_io.specs.Told.{Appends, AppendsPart, append_told}
use Rattle.hb_top.specs.Headline.{Says, AppendsFront}

pub said : (rose : Type 0) (old new : Option Text) (bytes message : Text) → Appends old new bytes → bytes ≡ message → Says rose old new message
said rose old new bytes message e q =
    let whole = e ∙ ap (append_told old) q in
    (λ h. whole, (length message, whole ∙ ap (append_told old) (sym (take_all (length message) message (omega arith)))))

pub said_part : (rose : Type 0) (old new : Option Text) (bytes message : Text) → rose → AppendsPart old new bytes → bytes ≡ message → Says rose old new message
said_part rose old new bytes message r p q = (λ h. absurd (h r), subst (AppendsFront old new) q (p.0, p.2))
