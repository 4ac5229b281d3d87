-- What the lexer's state stands for.
use Rattle.std.specs.Prelude.{string_bytes}
use Rattle.hol_terms.specs.Tokens as Lex
use Rattle.hol_text.specs.declared.lexer.CharClass.{CharClass}
use Rattle.hol_text.specs.declared.lexer.CharClass.TheVariants.{Blank, Hash, Quote, Zero, Letter, Minus, Equal, Slash, Backslash, Other}
use Rattle.hol_text.specs.declared.lexer.Part.{Part}
use Rattle.hol_text.specs.declared.lexer.Part.TheVariants.{OfSegment, Dot, Outside}
use Rattle.hol_text.specs.declared.lexer.State.{State}
use Rattle.hol_text.specs.declared.lexer.State.TheVariants.{Between, Comment, InName, AfterDot, AfterQuote, InVariable, AfterMinus, AfterEqual, AfterEquals, AfterSlash, AfterBackslash}

abbrev pub class_view : CharClass → Lex.Class
class_view Blank = Lex.blank
class_view Hash = Lex.hash
class_view Quote = Lex.quote
class_view Zero = Lex.zero_name
class_view Letter = Lex.letter
class_view Minus = Lex.minus
class_view Equal = Lex.equal
class_view Slash = Lex.slash
class_view Backslash = Lex.backslash
class_view Other = Lex.other

abbrev pub part_view : Part → Lex.Part
part_view OfSegment = Lex.of_segment
part_view Dot = Lex.of_dot
part_view Outside = Lex.outside

abbrev pub state_of : State → Lex.State
state_of Between = Lex.between
state_of Comment = Lex.comment
state_of (InName q w) = Lex.in_name q (string_bytes w)
state_of (AfterDot q w d) = Lex.after_dot q (string_bytes w) d
state_of (AfterQuote q) = Lex.after_quote q
state_of (InVariable q w) = Lex.in_variable q (string_bytes w)
state_of (AfterMinus q) = Lex.after_minus q
state_of (AfterEqual q) = Lex.after_equal q
state_of (AfterEquals q r) = Lex.after_equals q r
state_of (AfterSlash q) = Lex.after_slash q
state_of (AfterBackslash q) = Lex.after_backslash q
