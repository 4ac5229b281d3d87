-- The marks of a theory without a command, and of a theory of one definition, are fit.
use Rattle.std.specs.declared.alloc.Global.{Global}
use Rattle.std.proofs.Common.{◌≡◌, ℕ, suc, ◌+◌, ◌<◌, ◌≤◌, true, not, ◌&&◌, List, [], ◌∷◌, ◌++◌, length, Option, Some, None, take, take_all, refl, sym, ap, ◌∙◌, subst, arith, slice_get, string_bytes, String}
use Rattle.std.specs.Prelude.{IsSomeAnd, is_none, option_to_list}
use Rattle.std.specs.List.{list_any}
use Rattle.std.proofs.lemmas.Bool.{and_parts}
use Rattle.std.proofs.lemmas.List.{take_at, length-append}
use Rattle.std.proofs.lemmas.List.Elements.{All-nil, All-cons}
use Rattle.std.proofs.lemmas.Option.{slice_get_within}
use Rattle.hol_terms.specs.Name.{Name, is_name, is_numbered}
use Rattle.hol_terms.specs.Tm.{Tm}
use Rattle.hol_terms.specs.Typing.{tm_type}
use Rattle.hol_terms.specs.TyVars.{own_const}
use Rattle.hol_terms.specs.Signature.{Signature, arity_of, generic_of, is_new, may_introduce, IsOver}
use Rattle.hol_terms.specs.Definition.{Definition, const_def, type_def, signature_of}
use Rattle.hol_terms.specs.Sequent.{IsTyped}
use Rattle.hol_terms.specs.Base.{base}
use Rattle.hol_terms.specs.declared.defs.Def.{Def}
use Rattle.hol_terms.specs.declared.defs.Def.TheVariants as def
use Rattle.hol_kernel.specs.State.{State}
use Rattle.hol_kernel.specs.Run.{IsRun, run_start, run_rule, run_const, run_type}
use Rattle.hol_kernel.specs.declared.step.Step.{Step}
use Rattle.hol_kernel.specs.declared.step.Step.TheVariants.{Const}
use Rattle.hol_logs.specs.Line.{line_const, is_section}
use Rattle.proof_log.specs.declared.marks.Mark.{Mark}
use Rattle.proof_log.specs.declared.marks.MarkKind.TheVariants.{Section, Name as Named}
use Rattle.proof_log.specs.declared.marks.End.{End}
use Rattle.proof_log.specs.Lines.{definition_lines}
use Rattle.proof_log.specs.Marks.{is_second, IsPlace, made_by, IsFitMark, IsFitEnd, AreFit}
use Rattle.proof_log.specs.Theories.{base_mark, says, IsDefinedNext, define_marks}
use Rattle.proof_log.proofs.Fronts.{get_front, run_counts}
use Rattle.proof_log.proofs.Runs.{typed}

-- ---- lists that end in one more

pub longer : {A : Type 0} (xs : List A) (x : A) → length (xs ++ x ∷ []) ≡ suc (length xs)
longer xs x = let p = length-append xs (x ∷ []) in omega arith

none_longer : {A : Type 0} (xs : List A) (x : A) → [] ≡ xs ++ x ∷ [] → ⊥
none_longer xs x e = let p = longer xs x in let q : 0 ≡ length (xs ++ x ∷ []) = ap length e in omega arith

head_same : {A : Type 0} (x y : A) (xs ys : List A) → x ∷ xs ≡ y ∷ ys → (x ≡ y) × (xs ≡ ys)
head_same x y xs ys e = (cc, cc)

ends_same : {A : Type 0} (xs ys : List A) (x y : A) → xs ++ x ∷ [] ≡ ys ++ y ∷ [] → (xs ≡ ys) × (x ≡ y)
ends_same [] [] x y e = (refl, (head_same x y [] [] e).0)
ends_same [] (b ∷ ys) x y e = absurd (none_longer ys y (head_same x b [] (ys ++ y ∷ []) e).1)
ends_same (a ∷ xs) [] x y e = absurd (none_longer xs x (sym (head_same a y (xs ++ x ∷ []) [] e).1))
ends_same (a ∷ xs) (b ∷ ys) x y e =
    let h = head_same a b (xs ++ x ∷ []) (ys ++ y ∷ []) e in
    let r = ends_same xs ys x y h.1 in
    (λ i. h.0 i ∷ r.0 i, r.1)

pub at_end : {A : Type 0} (xs : List A) (x : A) → slice_get (xs ++ x ∷ []) (length xs) ≡ Some x
at_end [] x = refl
at_end (y ∷ xs) x = at_end xs x

behind_end : {A : Type 0} (xs : List A) → slice_get xs (length xs) ≡ None
behind_end [] = refl
behind_end (x ∷ xs) = behind_end xs

no_type_here : (c n : Name) (t p : Tm) → type_def n p ≡ const_def c t → ⊥
no_type_here c n t p e = cc

same_constant : (c d : Name) (t u : Tm) → const_def c t ≡ const_def d u → (c ≡ d) × (t ≡ u)
same_constant c d t u e = (cc, cc)

-- ---- the last definition of a run

-- its step gives what it says
shown : (ds : List Def) (ss : List Step) (k : State) → IsRun ds ss k → (before : List Definition) (c : Name) (t : Tm) → k.defs ≡ before ++ const_def c t ∷ []
    → (i : ℕ) × (slice_get k.steps i ≡ Some (says c t))
shown ds ss k run_start before c t e = absurd (none_longer before (const_def c t) e)
shown ds ss k (run_rule es ts j s a r h) before c t e =
    let p = shown es ts j r before c t e in
    let within : p.0 < length j.steps = slice_get_within j.steps p.0 (says c t) p.1 in
    (p.0, get_front j.steps (a ∷ []) p.0 within ∙ p.1)
shown ds ss k (run_const es ts j name u r h) before c t e =
    let d = same_constant (string_bytes name) c u t (ends_same j.defs before (const_def (string_bytes name) u) (const_def c t) e).1 in
    (length j.steps, at_end j.steps (says (string_bytes name) u) ∙ (λ i. Some (says (d.0 i) (d.1 i))))
shown ds ss k (run_type es ts j name p u from r h g) before c t e =
    absurd (no_type_here c (string_bytes name) t p (ends_same j.defs before (type_def (string_bytes name) p) (const_def c t) e).1)

-- the run's last step makes the definition, and the steps before it make the others
pub record EndsInDefinition (ds : List Def) (ss : List Step) (old : State) (c : Name) (t : Tm) : Type 0 where
  pub steps : List Step
  pub number : ℕ
  pub ends : ss ≡ steps ++ Const number ∷ []
  pub as_many : length steps ≡ length old.steps
  pub made : made_by steps ≡ length old.defs
  pub line : definition_lines (slice_get ds number) ≡ line_const c t ∷ []

-- where no step before the last one gave what the definition says
ends_in : (ds : List Def) (ss : List Step) (k : State) → IsRun ds ss k → (old : State) (c : Name) (t : Tm) → ((i : ℕ) → slice_get old.steps i ≡ Some (says c t) → ⊥)
    → k.defs ≡ old.defs ++ const_def c t ∷ [] → k.steps ≡ old.steps ++ says c t ∷ [] → EndsInDefinition ds ss old c t
ends_in ds ss k run_start old c t new e f = absurd (none_longer old.defs (const_def c t) e)
ends_in ds ss k (run_rule es ts j s a r h) old c t new e f =
    let p = shown es ts j r old.defs c t e in
    absurd (new p.0 (ap (λ xs. slice_get xs p.0) (sym (ends_same j.steps old.steps a (says c t) f).0) ∙ p.1))
ends_in ds ss k (run_const es ts j name u r h) old c t new e f =
    let counts = run_counts es ts j r in
    let defs = ends_same j.defs old.defs (const_def (string_bytes name) u) (const_def c t) e in
    let steps = ends_same j.steps old.steps (says (string_bytes name) u) (says c t) f in
    let d = same_constant (string_bytes name) c u t defs.1 in
    record {
      steps = ts;
      number = length es;
      ends = refl;
      as_many = sym counts.steps ∙ ap length steps.0;
      made = counts.made ∙ ap length defs.0;
      line = ap definition_lines (at_end es (def.Const name u)) ∙ (λ i. line_const (d.0 i) (d.1 i) ∷ []);
    }
ends_in ds ss k (run_type es ts j name p u from r h g) old c t new e f =
    absurd (no_type_here c (string_bytes name) t p (ends_same j.defs old.defs (type_def (string_bytes name) p) (const_def c t) e).1)

-- a term over a signature has no constant that may be introduced
none_is_some : {A : Type 0} (o : Option A) (x : A) → is_none o ≡ true → o ≡ Some x → ⊥
none_is_some None x h e = cc
none_is_some (Some y) x h e = cc

foreign : (s : Signature) (c : Name) (t : Tm) → may_introduce s c ≡ true → IsTyped s (says c t) → ⊥
foreign s c t h typed_over =
    let free = and_parts (is_none (arity_of s c)) (is_none (generic_of s c)) (and_parts (is_name c && not (is_numbered c)) (is_new s c) h).1 in
    let known : IsOver s [] (own_const c (tm_type t)) = typed_over.concl_is.0.0.1 in
    none_is_some (generic_of s c) known.generic free.1 known.known

pub ends_in_definition : (n : ℕ) (old new : State) (c : Name) (t : Tm) (ds : List Def) (ss : List Step) → IsDefinedNext n old new c t → IsRun ds ss new → EndsInDefinition ds ss old c t
ends_in_definition n old new c t ds ss h r =
    ends_in ds ss new r old c t (λ i e. foreign (signature_of old.defs) c t h.named (typed h.defs h.steps old h.run i (says c t) e)) (ap (λ k. k.defs) h.after) (ap (λ k. k.steps) h.after)

-- ---- places

place_behind : (ss : List Step) (at : ℕ) → at ≡ length ss → IsPlace ss at
place_behind ss at e = record {
  within = omega arith;
  apart = ap (λ i. list_any is_second (option_to_list (slice_get ss i))) e ∙ ap (λ o. list_any is_second (option_to_list o)) (behind_end ss);
}

place_before : (ss ts : List Step) (i at : ℕ) → ss ≡ ts ++ Const i ∷ [] → at ≡ length ts → IsPlace ss at
place_before ss ts i at e f = record {
  within = let p = longer ts (Const i) in let q : length ss ≡ length (ts ++ Const i ∷ []) = ap length e in omega arith;
  apart = (λ j. list_any is_second (option_to_list (slice_get (e j) (f j)))) ∙ ap (λ o. list_any is_second (option_to_list o)) (at_end ts (Const i));
}

-- ---- no command

pub base_marks_fit : (n : ℕ) (k : State) (end : End) → k.defs ≡ base n → IsFitEnd end → AreFit n k (base_mark n k ∷ []) end
base_marks_fit n k end e h = record {
  based = refl;
  said = All-nil (IsFitMark k);
  ordered = tt;
  ended = h;
  placed = λ ds ss r. All-cons (λ m. IsPlace ss m.at) (base_mark n k) [] (place_behind ss (length k.steps) (run_counts ds ss k r).steps) (All-nil (λ m. IsPlace ss m.at));
  exact = λ ds ss r.
      let counts = run_counts ds ss k r in
      let all : take (length k.steps) ss ≡ ss = take_all (length k.steps) ss (let p = counts.steps in omega arith) in
      let made : made_by (take (length k.steps) ss) ≡ length k.defs = ap made_by all ∙ counts.made in
      ap (λ m. take m k.defs) made ∙ take_all (length k.defs) k.defs (omega arith) ∙ e;
}

-- ---- one definition

taken : {A : Type 0} (xs zs : List A) (y : A) (m : ℕ) → zs ≡ xs ++ y ∷ [] → m ≡ length xs → take m zs ≡ xs
taken xs zs y m e f = ap (take m) e ∙ take_at xs (y ∷ []) m (sym f)

exact_before : (n : ℕ) (old new : State) (c : Name) (t : Tm) (ds : List Def) (ss : List Step) → IsDefinedNext n old new c t → IsRun ds ss new → take (made_by (take (length old.steps) ss)) new.defs ≡ base n
exact_before n old new c t ds ss h r =
    let l = ends_in_definition n old new c t ds ss h r in
    let front : take (length old.steps) ss ≡ l.steps = taken l.steps ss (Const l.number) (length old.steps) l.ends (sym l.as_many) in
    let made : made_by (take (length old.steps) ss) ≡ length old.defs = ap made_by front ∙ l.made in
    taken old.defs new.defs (const_def c t) (made_by (take (length old.steps) ss)) (ap (λ k. k.defs) h.after) made ∙ h.before

some_holds : {A : Type 0} (o : Option A) (x : A) (P : A → Type 0) → o ≡ Some x → P x → IsSomeAnd o P
some_holds {A = A} o x P e h = subst (λ (q : Option A). IsSomeAnd q P) (sym e) h

pub define_marks_fit : (n : ℕ) (old new : State) (c : Name) (t : Tm) (text name : String Global) (end : End) → IsDefinedNext n old new c t → is_section (string_bytes text) ≡ true → is_name (string_bytes name) ≡ true → IsFitEnd end
    → AreFit n new (define_marks n old text name) end
define_marks_fit n old new c t text name end h s f e =
    let at = length old.steps in
    let section : Mark = record { at = at; kind = Section text } in
    let named : Mark = record { at = at + 1; kind = Named name at } in
    let step : slice_get new.steps at ≡ Some (says c t) = ap (λ k. slice_get k.steps at) h.after ∙ at_end old.steps (says c t) in
    let low : at < at + 1 = omega arith in
    let up : at ≤ at + 1 = omega arith in
    let same : at ≤ at = omega arith in
    record {
      based = refl;
      said = All-cons (IsFitMark new) section (named ∷ []) s (All-cons (IsFitMark new) named [] (f, low, some_holds (slice_get new.steps at) (says c t) (λ a. a.hyps ≡ []) step refl) (All-nil (IsFitMark new)));
      ordered = (same, (up, tt));
      ended = e;
      placed = λ ds ss r.
          let l = ends_in_definition n old new c t ds ss h r in
          let before : IsPlace ss at = place_before ss l.steps l.number at l.ends (sym l.as_many) in
          let size : at + 1 ≡ length ss = let p = longer l.steps (Const l.number) in let q : length ss ≡ length (l.steps ++ Const l.number ∷ []) = ap length l.ends in let z = l.as_many in omega arith in
          All-cons (λ m. IsPlace ss m.at) (base_mark n old) (section ∷ named ∷ []) before
          (All-cons (λ m. IsPlace ss m.at) section (named ∷ []) before (All-cons (λ m. IsPlace ss m.at) named [] (place_behind ss (at + 1) size) (All-nil (λ m. IsPlace ss m.at))));
      exact = λ ds ss r. exact_before n old new c t ds ss h r;
    }
