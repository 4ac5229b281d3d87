-- What the reader's scope stands for.
use Rattle.std.specs.Prelude.{[], ◌∷◌}
use Rattle.hol_terms.specs.Reading as Read
use Rattle.hol_text.specs.declared.scope.Scope.{Scope, Top, Binder'}

abbrev pub scope_of : Scope → Read.Scope
scope_of Top = []
scope_of (Binder' name var p outer) = (name.now, var.now) ∷ scope_of outer
