-- From line to line, and from the lines that were fed to the log.
use Rattle.std.proofs.Common.{◌≡◌, ◌≢◌, ℕ, suc, Bool, true, false, cond, List, [], ◌∷◌, ◌++◌, length, take, drop, Option, Some, None, refl, sym, ap, ◌∙◌, subst, append_assoc, append-nil, arith}
use Rattle.std.specs.Prelude.{Result, Ok, Err, OnOk, String, string_bytes}
use Rattle.std.specs.declared.alloc.Global.{Global}
use Rattle.std.proofs.lemmas.List.{length-append, take-append-drop}
use Rattle.hb_io.specs.Told.{Appends, append_told}
use Rattle.hb_io.proofs.ToldLemmas.{append_told-nil, append_told-append}
use Rattle.hol_terms.specs.Text.{Text}
use Rattle.hol_logs.specs.Line.{LogLine}
use Rattle.hol_logs.specs.Position.{LogPosition, start_position, after, report_of, Why, by_form, by_number, by_rule, by_unfit, by_base, by_text, by_count, by_cut, is_misplaced, lacks_a_step, breaks_its_rule, is_unfit, is_off_base, names_another, miscounts, first_cause}
use Rattle.hol_logs.specs.Log.{log_lines, unlines, IsGood, IsBad, no_form, a_cause, Reads, no_line, one_more, IsBadLog, bad_line}
use Rattle.replay_check.specs.declared.why.Why.{Why as Cause}
use Rattle.replay_check.specs.declared.why.Why.TheVariants.{Form, Number, Rule, Unfit, Base, Text as Statement, Count, Cut, Endless}
use Rattle.replay_check.specs.Checked.{CheckerState, IsFed, IsFeedError}
use Rattle.replay_check.specs.declared.checker.FeedError.{FeedError}
use Rattle.replay_check.specs.declared.checker.FeedError.TheVariants.{BadLine}
use Rattle.base_count.specs.InForce.{in_force}
use Rattle.replay_check.specs.Positions.{reported, cause_of}
use Rattle.log_replay.specs.declared.replay.ReplayError.{ReplayError}
use Rattle.log_replay.specs.declared.replay.ReplayError.TheVariants.{BadLog, WriteFault, Memory}
use Rattle.log_replay.specs.Replayed.{IsFaultOf, GainsFaultReport, GainsPart, IfBadLog, IfCut}
use Rattle.log_replay.specs.Lines.{AppendsFront, IsAfter, IsBadBehind, IsPartBehind, IsFedLine}
use Rattle.log_replay.proofs.Texts.{unlines_append}

pub reads_count : (n : ℕ) (texts : List Text) (p : LogPosition) (said : List Text) → Reads n texts p said → p.lines ≡ length texts
reads_count n texts p said no_line = refl
reads_count n texts p said (one_more ts ss q t l r good) = let h = reads_count n ts q ss r in let s = length-append ts (t ∷ []) in omega arith

-- ---- before the first line

pub nothing_fed : (s : CheckerState) (o : Option Text) → s ≡ record { position = start_position; failure = None } → IsAfter [] s o o
nothing_fed s o e = record { said = []; read = subst (λ p. Reads in_force [] p []) (sym (ap (λ c. c.position) e)) no_line; sound = ap (λ c. c.failure) e; gained = sym (append_told-nil o) }

-- ---- one line more

joined : (old mid new : Option Text) (a b : Text) → Appends old mid a → Appends mid new b → Appends old new (a ++ b)
joined old mid new a b f g = g ∙ ap (λ o. append_told o b) f ∙ sym (append_told-append old a b)

pub advance : (texts : List Text) (text : Text) (s t : CheckerState) (old mid new : Option Text) (l : LogLine) → IsAfter texts s old mid → IsGood in_force s.position text l → t.position ≡ after s.position l → t.failure ≡ None
    → Appends mid new (unlines (report_of s.position l)) → IsAfter (texts ++ text ∷ []) t old new
advance texts text s t old mid new l a good e f w = record {
  said = a.said ++ report_of s.position l;
  read = subst (λ p. Reads in_force (texts ++ text ∷ []) p (a.said ++ report_of s.position l)) (sym e) (one_more texts a.said s.position text l a.read good);
  sound = f;
  gained = joined old mid new _ _ a.gained w ∙ ap (append_told old) (sym (unlines_append a.said (report_of s.position l)));
}

pub cut_within : (texts : List Text) (text : Text) (s : CheckerState) (old mid new : Option Text) (l : LogLine) → IsAfter texts s old mid → IsGood in_force s.position text l → AppendsFront mid new (unlines (report_of s.position l)) → IsPartBehind (texts ++ text ∷ []) old new
cut_within texts text s old mid new l a good w =
    let r = unlines (report_of s.position l) in
    record {
      front = texts ++ text ∷ [];
      rest = [];
      position = after s.position l;
      said = a.said ++ report_of s.position l;
      out = unlines a.said ++ take w.0 r;
      more = drop w.0 r;
      lines = sym (append-nil (texts ++ text ∷ []));
      read = one_more texts a.said s.position text l a.read good;
      begins = append_assoc (unlines a.said) (take w.0 r) (drop w.0 r) ∙ ap (λ x. unlines a.said ++ x) (take-append-drop w.0 r) ∙ sym (unlines_append a.said (report_of s.position l));
      gained = joined old mid new _ _ a.gained w.1;
    }

pub cut_before : (texts : List Text) (text : Text) (s : CheckerState) (old new : Option Text) → IsAfter texts s old new → IsPartBehind (texts ++ text ∷ []) old new
cut_before texts text s old new a = record {
  front = texts;
  rest = text ∷ [];
  position = s.position;
  said = a.said;
  out = unlines a.said;
  more = [];
  lines = refl;
  read = a.read;
  begins = append-nil (unlines a.said);
  gained = a.gained;
}

pub refused : (texts : List Text) (text : Text) (s : CheckerState) (old new : Option Text) (number : ℕ) (why : Cause) → IsAfter texts s old new → number ≡ suc s.position.lines → IsBad in_force s.position text (cause_of why)
    → IsBadBehind texts text old new number why
refused texts text s old new number why a e bad = record {
  position = s.position;
  said = a.said;
  read = a.read;
  bad = bad;
  number_is = e ∙ ap suc (reads_count in_force texts s.position a.said a.read);
  gained = a.gained;
}

-- ---- what the checker and the sink said of a line

printed : (line : String Global) (ls : List Text) → reported (Some line) ≡ ls → string_bytes line ++ 10 ∷ [] ≡ unlines ls
printed line ls e = sym (append-nil (string_bytes line ++ 10 ∷ [])) ∙ ap unlines e

pub fed_some : (texts : List Text) (text : Text) (s t : CheckerState) (old mid new : Option Text) (line : String Global) (q : Option (String Global)) (r : Result (Unit {0}) ReplayError) → q ≡ Some line → IsFed s t text q
    → OnOk r (Appends mid new (string_bytes line ++ 10 ∷ [])) → IfCut r (AppendsFront mid new (string_bytes line ++ 10 ∷ [])) → IfBadLog r (λ number why. ⊥) → IsAfter texts s old mid → IsFedLine texts text t old new r
fed_some texts text s t old mid new line q (Ok x) e f ok cut bad a = advance texts text s t old mid new f.0 a f.1 f.2 f.3 (ok ∙ ap (append_told mid) (printed line (report_of s.position f.0) (sym (ap reported e) ∙ f.4)))
fed_some texts text s t old mid new line q (Err (BadLog number why)) e f ok cut bad a = absurd bad
fed_some texts text s t old mid new line q (Err WriteFault) e f ok cut bad a = cut_within texts text s old mid new f.0 a f.1 (subst (AppendsFront mid new) (printed line (report_of s.position f.0) (sym (ap reported e) ∙ f.4)) cut)
fed_some texts text s t old mid new line q (Err Memory) e f ok cut bad a = cut_within texts text s old mid new f.0 a f.1 (subst (AppendsFront mid new) (printed line (report_of s.position f.0) (sym (ap reported e) ∙ f.4)) cut)

pub fed_none : (texts : List Text) (text : Text) (s t : CheckerState) (old mid : Option Text) (q : Option (String Global)) → q ≡ None → IsFed s t text q → IsAfter texts s old mid → IsAfter (texts ++ text ∷ []) t old mid
fed_none texts text s t old mid q e f a = advance texts text s t old mid mid f.0 a f.1 f.2 f.3 (sym (append_told-nil mid) ∙ ap (λ ls. append_told mid (unlines ls)) (sym (ap reported e) ∙ f.4))

pub fed_counts : (s t : CheckerState) (text : Text) (r : Option (String Global)) → IsFed s t text r → t.position.lines ≡ suc s.position.lines
fed_counts s t text r f = ap (λ p. p.lines) f.2

pub fed_sound : (s t : CheckerState) (text : Text) (r : Option (String Global)) → IsFed s t text r → t.failure ≡ None
fed_sound s t text r f = f.3

pub fed_bad : (texts : List Text) (text : Text) (s : CheckerState) (old new : Option Text) (number : ℕ) (why : Cause) (e : FeedError) → e ≡ BadLine number why → IsFeedError s text e → IsAfter texts s old new → IsBadBehind texts text old new number why
fed_bad texts text s old new number why e is f a = let g : IsFeedError s text (BadLine number why) = subst (IsFeedError s text) is f in refused texts text s old new number why a g.0 g.1

-- ---- no line is cut

first_is : (b : Bool) (why : Why) (o : Option Why) → why ≢ by_cut → cond b (Some why) o ≡ Some by_cut → o ≡ Some by_cut
first_is true why o h e = let same : why ≡ by_cut = cc in absurd (h same)
first_is false why o h e = e

no_cut : (n : ℕ) (p : LogPosition) (l : LogLine) → first_cause n p l ≡ Some by_cut → ⊥
no_cut n p l e =
    let number = first_is (is_misplaced p l) by_form _ (λ x. cc) e in
    let rule = first_is (lacks_a_step p l) by_number _ (λ x. cc) number in
    let unfit = first_is (breaks_its_rule p l) by_rule _ (λ x. cc) rule in
    let base = first_is (is_unfit p l) by_unfit _ (λ x. cc) unfit in
    let text = first_is (is_off_base n p l) by_base _ (λ x. cc) base in
    let count = first_is (names_another p l) by_text _ (λ x. cc) text in
    let none = first_is (miscounts p l) by_count _ (λ x. cc) count in
    cc

bad_is_not_cut : (n : ℕ) (p : LogPosition) (text : Text) (why : Why) → IsBad n p text why → why ≡ by_cut → ⊥
bad_is_not_cut n p text why (no_form h) e = cc
bad_is_not_cut n p text why (a_cause l w form first) e = no_cut n p l (first ∙ ap (λ x. Some x) e)

-- ---- a log with a bad line

fault_of : (b report : Text) (number : ℕ) (why : Cause) → (cause_of why ≡ by_cut → ⊥) → IsBadLog in_force b report number (cause_of why) → IsFaultOf b report number why
fault_of b report number Form h f = f
fault_of b report number Number h f = f
fault_of b report number Rule h f = f
fault_of b report number Unfit h f = f
fault_of b report number Base h f = f
fault_of b report number Statement h f = f
fault_of b report number Count h f = f
fault_of b report number Cut h f = f
fault_of b report number Endless h f = absurd (h refl)

pub bad_in : (b : Text) (texts rest : List Text) (text : Text) (old new : Option Text) (number : ℕ) (why : Cause) → log_lines b ≡ texts ++ text ∷ rest → IsBadBehind texts text old new number why → GainsFaultReport b old new number why
bad_in b texts rest text old new number why e f = record {
  report = unlines f.said;
  fault = fault_of b (unlines f.said) number why (bad_is_not_cut in_force f.position text (cause_of why) f.bad)
      (subst (λ k. IsBadLog in_force b (unlines f.said) k (cause_of why)) (sym f.number_is) (bad_line texts rest f.said f.position text (cause_of why) e f.read f.bad));
  gained = f.gained;
}

pub part_in : (b : Text) (texts rest : List Text) (old new : Option Text) → log_lines b ≡ texts ++ rest → IsPartBehind texts old new → GainsPart b old new
part_in b texts rest old new e p = record {
  out = p.out;
  part = record {
    texts = p.front;
    rest = p.rest ++ rest;
    position = p.position;
    said = p.said;
    more = p.more;
    lines = e ∙ ap (λ ls. ls ++ rest) p.lines ∙ append_assoc p.front p.rest rest;
    read = p.read;
    begins = p.begins;
  };
  gained = p.gained;
}
