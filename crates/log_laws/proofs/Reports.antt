-- What good lines report is sound: line by line.
use Rattle.std.proofs.Common.{◌≡◌, ℕ, zero, suc, Bool, true, false, ◌||◌, List, [], ◌∷◌, ◌++◌, refl, sym, ap, ◌∙◌, subst, append_assoc, append-nil}
use Rattle.std.specs.List.{list_all}
use Rattle.std.proofs.lemmas.Bool.{and_from}
use Rattle.std.proofs.lemmas.List.Folds.{list_all-append}
use Rattle.hol_terms.specs.Definition.{Definition}
use Rattle.hol_terms.specs.Sequent.{Sequent}
use Rattle.hol_terms.specs.Base.{base}
use Rattle.hol_terms.specs.Proves.{AreConservative, AreConservativeAfter}
use Rattle.hol_terms.specs.Text.{Text}
use Rattle.hol_terms.specs.Sound.{AreSoundAfter, IsSound}
use Rattle.hol_terms.proofs.Weaken.{Proves-append}
use Rattle.hol_logs.specs.Line.{LogLine}
use Rattle.hol_logs.specs.Position.{LogPosition, after, is_base_line, definitions_by, sequents_by, report_of, Why}
use Rattle.hol_logs.specs.Log.{unlines, log_lines, IsGood, Reads, no_line, one_more, IsGoodLog, good_log, IsBadLog, bad_line, cut_off, IsPartOfReport}
use Rattle.log_laws.proofs.Lines.{is_line}
use Rattle.hol_logs.proofs.Causes.{no_causes}
use Rattle.log_laws.proofs.StepsProve.{AllFollow}
use Rattle.log_laws.proofs.Written.{sound_from_lines, sound_part}
use Rattle.log_laws.proofs.Gives.{GoesOn, line_gives}

-- behind the base line, whatever is sound over the definitions by now may follow the report so far; before it nothing was said
abbrev IsSoundSoFar : ℕ → Bool → List Definition → List Text → Type 0
IsSoundSoFar n true ds said = (ls : List Text) → AreSoundAfter ds ls → AreSoundAfter (base n) (said ++ ls)
IsSoundSoFar n false ds said = said ≡ []

record Holds (n : ℕ) (p : LogPosition) (said : List Text) : Type 0 where
  conservative : AreConservative p.defs
  follow : AllFollow p.defs p.steps
  lines : list_all is_line said ≡ true
  sound : IsSoundSoFar n p.is_based p.defs said

-- ---- one line more

conservative_append : (before ds es : List Definition) → AreConservativeAfter before ds → AreConservativeAfter (before ++ ds) es → AreConservativeAfter before (ds ++ es)
conservative_append before [] es h g = subst (λ bs. AreConservativeAfter bs es) (append-nil before) g
conservative_append before (d ∷ ds) es h g =
    (h.0, conservative_append (before ++ d ∷ []) ds es h.1 (subst (λ bs. AreConservativeAfter bs es) (sym (append_assoc before (d ∷ []) ds)) g))

follow_append : (ds : List Definition) (old new : List Sequent) → AllFollow ds old → AllFollow ds new → AllFollow ds (old ++ new)
follow_append ds [] new f g i a e = g i a e
follow_append ds (b ∷ old) new f g zero a e = f zero a e
follow_append ds (b ∷ old) new f g (suc i) a e = follow_append ds old new (λ j. f (suc j)) g i a e

goes_on : (n : ℕ) (b based : Bool) (ds es : List Definition) (said new : List Text) → IsSoundSoFar n b ds said → GoesOn n b based ds es new → IsSoundSoFar n (b || based) (ds ++ es) (said ++ new)
goes_on n true based ds es said new h g = λ ls s. subst (AreSoundAfter (base n)) (sym (append_assoc said new ls)) (h (new ++ ls) (g ls s))
goes_on n false true ds es said new h g = λ ls s. subst (λ xs. AreSoundAfter (base n) ((xs ++ new) ++ ls)) (sym h) (g ls s)
goes_on n false false ds es said new h g = ap (λ xs. xs ++ new) h ∙ g

holds_after : (n : ℕ) (p : LogPosition) (said : List Text) (text : Text) (l : LogLine) → Holds n p said → IsGood n p text l → Holds n (after p l) (said ++ report_of p l)
holds_after n p said text l h good =
    let gives = line_gives n p l h.conservative h.follow good.form.over (no_causes n p l good.no_cause) in
    record {
      conservative = conservative_append [] p.defs (definitions_by p l) h.conservative gives.conservative;
      follow = follow_append (p.defs ++ definitions_by p l) p.steps (sequents_by p l) (λ i a e. Proves-append (definitions_by p l) (h.follow i a e)) gives.follow;
      lines = list_all-append is_line said (report_of p l) ∙ and_from (list_all is_line said) (list_all is_line (report_of p l)) h.lines gives.lines;
      sound = goes_on n p.is_based (is_base_line l) p.defs (definitions_by p l) said (report_of p l) h.sound gives.sound;
    }

holds : (n : ℕ) (texts : List Text) (p : LogPosition) (said : List Text) → Reads n texts p said → Holds n p said
holds n texts p said no_line = record { conservative = tt; follow = λ i a e. cc; lines = refl; sound = refl }
holds n texts p said (one_more ts ss q t l r good) = holds_after n q ss t l (holds n ts q ss r) good

pub reads_conservative : (n : ℕ) (texts : List Text) (p : LogPosition) (said : List Text) → Reads n texts p said → AreConservative p.defs
reads_conservative n texts p said r = (holds n texts p said r).conservative

-- ---- reports

so_far : (n : ℕ) (b : Bool) (ds : List Definition) (said : List Text) → IsSoundSoFar n b ds said → AreSoundAfter (base n) said
so_far n true ds said h = subst (AreSoundAfter (base n)) (append-nil said) (h [] tt)
so_far n false ds said h = subst (AreSoundAfter (base n)) (sym h) tt

reads_sound : (n : ℕ) (texts : List Text) (p : LogPosition) (said : List Text) → Reads n texts p said → IsSound (base n) (unlines said)
reads_sound n texts p said r = let h = holds n texts p said r in sound_from_lines (base n) said h.lines (so_far n p.is_based p.defs said h.sound)

pub good_sound : (n : ℕ) (b report : Text) → IsGoodLog n b report → IsSound (base n) report
good_sound n b report (good_log p said r e) = reads_sound n (log_lines b) p said r

pub bad_sound : (n : ℕ) (b report : Text) (number : ℕ) (why : Why) → IsBadLog n b report number why → IsSound (base n) report
bad_sound n b report number why (bad_line texts rest said p text w e r bad) = reads_sound n texts p said r
bad_sound n b report number why (cut_off p said r e) = reads_sound n (log_lines b) p said r

pub part_sound : (n : ℕ) (b out : Text) → IsPartOfReport n b out → IsSound (base n) out
part_sound n b out h = sound_part (base n) out h.more (unlines h.said) h.begins (reads_sound n h.texts h.position h.said h.read)
