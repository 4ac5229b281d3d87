-- What facts state: each is a text, which is read over the base definitions.
use Rattle.std.specs.Prelude.{List, map}
use Rattle.hol_terms.specs.Text.{Text}
use Rattle.library_facts.specs.declared.fact.Fact.{Fact}

abbrev pub statement_of : Fact → Text
statement_of fact = fact.statement.now

abbrev pub statements_of : List Fact → List Text
statements_of facts = map statement_of facts
