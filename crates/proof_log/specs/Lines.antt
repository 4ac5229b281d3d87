-- The lines of a log: of a step, of a mark and of the end.
use Rattle.std.specs.declared.alloc.Global.{Global}
use Rattle.std.specs.Prelude.{◌≡◌, map, filter, String, IsSome, ℕ, Bool, true, false, List, [], ◌∷◌, Option, Some, None, slice_get, string_bytes, codes}
use Rattle.hol_terms.specs.Name.{is_segment}
use Rattle.hol_terms.specs.Ty.{ty_var}
use Rattle.hol_terms.specs.Subst.{TySubst, ty_pairs}
use Rattle.hol_terms.specs.Text.{Text}
use Rattle.hol_terms.specs.declared.defs.Def.{Def}
use Rattle.hol_terms.specs.declared.defs.Def.TheVariants as def
use Rattle.hol_kernel.specs.State.{State}
use Rattle.hol_kernel.specs.declared.step.Step.{Step}
use Rattle.hol_kernel.specs.declared.step.Step.TheVariants.{Refl, Trans, Comb, Abs, Beta, Assume, Mp, Deduct, InstType, Inst, Axiom, Const, TypeAbs, TypeRep}
use Rattle.hol_logs.specs.Step.{step_refl, step_trans, step_comb, step_abs, step_beta, step_assume, step_mp, step_deduct, step_inst_type, step_inst, step_axiom, sequent_at}
use Rattle.hol_logs.specs.Line.{LogLine, line_step, line_const, line_type, line_base, line_section, line_name, line_end, line_stop, line_text}
use Rattle.proof_log.specs.declared.marks.MarkKind.{MarkKind}
use Rattle.proof_log.specs.declared.marks.MarkKind.TheVariants.{Base, Section, Name}
use Rattle.proof_log.specs.declared.marks.End.{End}
use Rattle.proof_log.specs.declared.marks.End.TheVariants.{Done, Stop}

-- ---- what a line puts for type variables

-- types for what may be called a type variable
abbrev pub segment_pairs : TySubst → TySubst
segment_pairs s = filter (λ p. is_segment p.0) s

-- a type variable for itself, where there would be no pair
abbrev pub or_no_change : TySubst → TySubst
or_no_change [] = (codes "a", ty_var (codes "a")) ∷ []
or_no_change (p ∷ s) = p ∷ s

-- terms over a signature have no type variable of another name, so that this does the same
abbrev pub written_pairs : TySubst → TySubst
written_pairs s = or_no_change (segment_pairs s)

-- what stands before a pair, behind another or as the first
abbrev pub separator : Bool → Text
separator true = codes " ; "
separator false = []

-- ---- lines

abbrev pub definition_lines : Option Def → List LogLine
definition_lines None = []
definition_lines (Some (def.Const name body)) = line_const (string_bytes name) body ∷ []
definition_lines (Some (def.NewType name pred from)) = line_type (string_bytes name) from ∷ []

-- one line, and none of the second step of a type's definition, which the first one's gives too
abbrev pub step_lines : List Def → Step → List LogLine
step_lines ds (Refl t) = line_step (step_refl t) ∷ []
step_lines ds (Trans i j) = line_step (step_trans i j) ∷ []
step_lines ds (Comb i j) = line_step (step_comb i j) ∷ []
step_lines ds (Abs v i) = line_step (step_abs v i) ∷ []
step_lines ds (Beta t) = line_step (step_beta t) ∷ []
step_lines ds (Assume p) = line_step (step_assume p) ∷ []
step_lines ds (Mp i j) = line_step (step_mp i j) ∷ []
step_lines ds (Deduct i j) = line_step (step_deduct i j) ∷ []
step_lines ds (InstType i s) = line_step (step_inst_type i (written_pairs (ty_pairs s.items))) ∷ []
step_lines ds (Inst i s) = line_step (step_inst i s.items) ∷ []
step_lines ds (Axiom k) = line_step (step_axiom k) ∷ []
step_lines ds (Const i) = definition_lines (slice_get ds i)
step_lines ds (TypeAbs i) = definition_lines (slice_get ds i)
step_lines ds (TypeRep i) = []

-- a name's line has the conclusion of the step that it names
abbrev pub mark_line : State → MarkKind → LogLine
mark_line k (Base m) = line_base m
mark_line k (Section text) = line_section (string_bytes text)
mark_line k (Name name i) = line_name (string_bytes name) i (sequent_at k.steps i).concl

-- the last line, below so many lines
abbrev pub end_line : ℕ → End → LogLine
end_line count Done = line_end count
end_line count (Stop test name place) = line_stop count (string_bytes test) (string_bytes name) place

-- the text is that of the one line; there is no line
abbrev pub IsLineOf : Option (String Global) → List LogLine → Type 0
IsLineOf None ls = ls ≡ []
IsLineOf (Some text) ls = map line_text ls ≡ string_bytes text ∷ []

-- what a name names is a step
abbrev pub NamesStep : State → MarkKind → Type 0
NamesStep k (Base m) = Unit {0}
NamesStep k (Section text) = Unit {0}
NamesStep k (Name name i) = IsSome (slice_get k.steps i)
