-- What a binder that was read stands for.
use Rattle.hol_text.specs.MeaningViews.{meaning_of}
use Rattle.hol_terms.specs.Reading as Read
use Rattle.hol_text.specs.declared.terms.Bound.{Bound}

abbrev pub bound_of : Bound → Read.Binder
bound_of b = (meaning_of b.ty, meaning_of b.abstraction)
