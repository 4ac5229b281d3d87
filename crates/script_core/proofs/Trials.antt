-- Closed tables compute: the form in which a table's function proves that its table fits.
use Rattle.std.proofs.Common.{◌≡◌, refl, [], ◌∷◌, Some, codes}
use Rattle.hol_terms.specs.Base.{base}
use Rattle.hol_terms.specs.Sequent.{seq, eq_tm}
use Rattle.hol_terms.specs.Logic.{const_T}
use Rattle.script_core.specs.Steps.{Registers}
use Rattle.script_core.specs.Tables.{run, table_sequent, fact_sequent}
use Rattle.std.specs.Str.Lines.{lines}
use Rattle.library_facts.proofs.BaseSignature.{base_signature}
use Rattle.script_core.proofs.Closed.{closed_table, fact_reads_as}

abbrev none : Registers
none = record { types = []; terms = []; thms = [] }

trial1 : table_sequent (base 10) [] none (codes "term T\nrefl 0\n") ≡ Some (seq [] (eq_tm const_T const_T))
unfolding closed_table
trial1 = refl

trial2 : table_sequent (base 10) [] none (codes "term \\x0:bool. x0\nrefl 0\ndef 0\nsym 1\neq_mp 2 0\n") ≡ Some (seq [] const_T)
unfolding closed_table
trial2 = refl

truth_reads : fact_sequent (codes "T") ≡ Some (seq [] const_T)
unfolding closed_table base_signature
truth_reads = fact_reads_as (codes "T") const_T refl

trial3 : run (base 10) (record { types = []; terms = []; thms = seq [] const_T ∷ seq [] const_T ∷ [] }) (lines (codes "conj_i 0 1\nconj_l 2\nterm T /\\ T\ndisch 0 3\nmp 4 2\n")) ≡ Some (seq [] const_T)
unfolding closed_table
trial3 = refl
