-- What the values of the reader stand for.
use Rattle.std.specs.Prelude.{◌≡◌, Option, Some, None, Result, Ok, Err, string_bytes}
use Rattle.hol_text.specs.MeaningViews.{meaning_of}
use Rattle.hol_text.specs.TokenViews.{tokens_of}
use Rattle.theory_text.specs.Command as Text
use Rattle.theory_text.specs.declared.written.Written.{Written}
use Rattle.theory_text.specs.declared.command.DefineCommand.{DefineCommand}

abbrev pub written_of : Written → Text.Written
written_of w = record { name = w.name.now; ty = meaning_of w.ty; term = meaning_of w.term; from_term = tokens_of w.from_term.now }

abbrev pub define_view : DefineCommand → Text.Define
define_view c = record { name = string_bytes c.name; body = c.body; stray = string_bytes c.stray; stray_place = c.stray_place }
