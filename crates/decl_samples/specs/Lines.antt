-- A fact in canonical text.
use Rattle.std.specs.Prelude.{◌++◌, codes}
use Rattle.hol_terms.specs.Text.{Text, tm_text}
use Rattle.decl_core.specs.Statements.{Fact}

abbrev pub fact_line : Fact → Text
fact_line f = f.0 ++ codes " : " ++ tm_text f.1
