-- How the output is put together.
use Rattle.std.proofs.Common.{◌≡◌, ◌≢◌, ◌+◌, Bool, true, false, List, [], ◌∷◌, ◌++◌, length, take, Option, Some, None, Result, Ok, Err, IfOk, refl, sym, ap, ◌∙◌, subst, codes, append_assoc, append-nil, eqb-true, arith}
use Rattle.std.specs.Prelude.{◌==◌}
use Rattle.std.specs.List.{list_any}
use Rattle.std.specs.Option.{option_map}
use Rattle.hol_terms.specs.Signature.{Signature}
use Rattle.std.proofs.lemmas.Bool.{true≢false}
use Rattle.hol_terms.specs.Definition.{Definition, signature_of}
use Rattle.hol_terms.specs.Base.{base}
use Rattle.hol_terms.specs.Text.{Text}
use Rattle.hol_kernel.specs.Fault.{const_fault}
use Rattle.theory_text.specs.Command.{Define, define_of}
use Rattle.theory_text.specs.Definable.{IsDefinable}
use Rattle.theory_text.specs.Views.{define_view}
use Rattle.theory_text.specs.declared.command.DefineCommand.{DefineCommand}
use Rattle.theory_text.proofs.Stated.{stated_definable}
use Rattle.base_count.specs.InForce.{in_force}
use Rattle.theory_answers.specs.Answer.{limit, is_refusal}
use Rattle.theory_answers.specs.Layout.{unlines}
use Rattle.theory_answers.specs.Answered.{IsCheck}
use Rattle.theory_answers.specs.Verdicts.{is_conservative}
use Rattle.theory_answers.proofs.BaseTypes.{base_gives_types}
use Rattle.theory_answers.proofs.Outputs.{answer_front}

-- one line more
pub unlines-push : (ls : List Text) (l : Text) → unlines ls ++ l ++ 10 ∷ [] ≡ unlines (ls ++ l ∷ [])
unlines-push [] l = sym (append-nil (l ++ 10 ∷ []))
unlines-push (k ∷ ls) l =
    ap (λ t. t ++ 10 ∷ []) (append_assoc (k ++ 10 ∷ []) (unlines ls) l) ∙ append_assoc (k ++ 10 ∷ []) (unlines ls ++ l) (10 ∷ []) ∙ ap (λ t. (k ++ 10 ∷ []) ++ t) (unlines-push ls l)

-- the output of a `define`, from the pieces that were pushed
pub section_pushed : (b n x d y f t1 t2 t3 t4 t5 : Text) → t1 ≡ unlines (b ∷ []) → t2 ≡ t1 ++ codes "command 1 define " → t3 ≡ t2 ++ n ++ 10 ∷ [] → t4 ≡ t3 ++ x ++ 10 ∷ [] → t5 ≡ t4 ++ y ++ 10 ∷ []
    → x ≡ d → y ≡ f → t5 ≡ unlines (b ∷ (codes "command 1 define " ++ n) ∷ d ∷ f ∷ [])
section_pushed b n x d y f t1 t2 t3 t4 t5 e1 e2 e3 e4 e5 p q =
    let heading = codes "command 1 define " in
    let r2 : t2 ++ n ≡ unlines (b ∷ []) ++ (heading ++ n) = ap (λ t. t ++ n) (e2 ∙ ap (λ t. t ++ heading) e1) ∙ append_assoc (unlines (b ∷ [])) heading n in
    let r3 : t3 ≡ unlines (b ∷ (heading ++ n) ∷ []) = e3 ∙ ap (λ t. t ++ 10 ∷ []) r2 ∙ unlines-push (b ∷ []) (heading ++ n) in
    let r4 : t4 ≡ unlines (b ∷ (heading ++ n) ∷ d ∷ []) = e4 ∙ (λ i. r3 i ++ p i ++ 10 ∷ []) ∙ unlines-push (b ∷ (heading ++ n) ∷ []) d in
    e5 ∙ (λ i. r4 i ++ q i ++ 10 ∷ []) ∙ unlines-push (b ∷ (heading ++ n) ∷ d ∷ []) f

-- what holds of the front of an input holds of the whole
pub check_front : (b out : Text) (refused : Bool) → IsCheck (take (limit + 1) b) out refused → IsCheck b out refused
check_front b out refused h = record {
  answered = h.answered ∙ answer_front b;
  decided = subst (λ (a : List Text). list_any is_refusal a ≡ refused) (answer_front b) h.decided;
  sound = h.sound;
  owned = h.owned;
}

-- tests of an input
pub no_bytes : (b : Text) (t : Bool) → t ≡ (length b == 0) → t ≡ true → b ≡ []
no_bytes [] t e h = refl
no_bytes (x ∷ b) t e h = let z : length (x ∷ b) ≡ 0 = eqb-true (length (x ∷ b)) 0 (sym e ∙ h) in absurd (omega arith)

pub some_bytes : (b : Text) (t : Bool) → t ≡ (length b == 0) → t ≡ false → b ≢ []
some_bytes [] t e h = absurd (true≢false (sym e ∙ h))
some_bytes (x ∷ b) t e h = λ n. cc

-- a definition that the text states
pub definable_here : (b : Text) (d : Define) → define_of (signature_of (base in_force)) b ≡ Some d → IsDefinable (signature_of (base in_force)) d
definable_here b d e = stated_definable (signature_of (base in_force)) b d base_gives_types e

pub fits_here : (ds : List Definition) (d : Define) → ds ≡ base in_force → IsDefinable (signature_of (base in_force)) d → is_conservative d ≡ true → const_fault ds d.name d.body ≡ None
fits_here ds d e h c = rw e (rw (h.named, h.closed, c) refl)

-- what holds of a result by two of its facts
pub both_ok : {X E : Type 0} {P Q R : X → Type 0} (r : Result X E) → IfOk r P → IfOk r Q → ((x : X) → P x → Q x → R x) → IfOk r R
both_ok (Ok x) p q f = f x p q
both_ok (Err e) p q f = tt

pub one_ok : {X E : Type 0} {P R : X → Type 0} (r : Result X E) → IfOk r P → ((x : X) → P x → R x) → IfOk r R
one_ok (Ok x) p f = f x p
one_ok (Err e) p f = tt

-- a definition among the options
pub no_define : (o : Option DefineCommand) (s : Signature) (b : Text) → option_map define_view o ≡ define_of s b → o ≡ None → define_of s b ≡ None
no_define o s b e n = sym e ∙ ap (option_map define_view) n

pub a_define : (o : Option DefineCommand) (c : DefineCommand) (s : Signature) (b : Text) → option_map define_view o ≡ define_of s b → o ≡ Some c → define_of s b ≡ Some (define_view c)
a_define o c s b e n = sym e ∙ ap (option_map define_view) n

pub over_base : (s : Signature) (ds : List Definition) (b : Text) (o : Option Define) → s ≡ signature_of ds → ds ≡ base in_force → define_of s b ≡ o → define_of (signature_of (base in_force)) b ≡ o
over_base s ds b o e d h = ap (λ (t : Signature). define_of t b) (sym (e ∙ ap signature_of d)) ∙ h

-- the base line and a refusal
pub refused_pushed : (b line t1 t2 : Text) (l : Text) → t1 ≡ unlines (b ∷ []) → t2 ≡ t1 ++ l ++ 10 ∷ [] → l ≡ line → t2 ≡ unlines (b ∷ line ∷ [])
refused_pushed b line t1 t2 l e f g = f ∙ (λ i. e i ++ g i ++ 10 ∷ []) ∙ unlines-push (b ∷ []) line

pub ruleset refused_lemmas = (refused_pushed)
