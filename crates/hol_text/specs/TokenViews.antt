-- What the values of the lexer stand for.
use Rattle.std.specs.Prelude.{List, map, string_bytes}
use Rattle.hol_terms.specs.Tokens as Lex
use Rattle.hol_terms.specs.Tokens.{Kind, token, Part, of_segment, of_dot, outside}
use Rattle.hol_text.specs.declared.tokens.TokenKind.{TokenKind}
use Rattle.hol_text.specs.declared.tokens.TokenKind.TheVariants.{Name, Variable, Keyword, OpenParen, CloseParen, OpenBrace, CloseBrace, OpenBracket, CloseBracket, Comma, Colon, Semicolon, Dot, Bar, Equals, Arrow, Lambda, ForAll, Exists, Not, And, Or, Implies, End, Unknown}
use Rattle.hol_text.specs.declared.tokens.Token.{Token}

abbrev pub kind_of : TokenKind → Kind
kind_of Name = Lex.a_name
kind_of Variable = Lex.a_variable
kind_of Keyword = Lex.a_keyword
kind_of OpenParen = Lex.open_paren
kind_of CloseParen = Lex.close_paren
kind_of OpenBrace = Lex.open_brace
kind_of CloseBrace = Lex.close_brace
kind_of OpenBracket = Lex.open_bracket
kind_of CloseBracket = Lex.close_bracket
kind_of Comma = Lex.comma
kind_of Colon = Lex.colon
kind_of Semicolon = Lex.semicolon
kind_of Dot = Lex.dot
kind_of Bar = Lex.bar
kind_of Equals = Lex.equals
kind_of Arrow = Lex.arrow
kind_of Lambda = Lex.lambda_sign
kind_of ForAll = Lex.all_sign
kind_of Exists = Lex.ex_sign
kind_of Not = Lex.not_sign
kind_of And = Lex.and_sign
kind_of Or = Lex.or_sign
kind_of Implies = Lex.implies_sign
kind_of End = Lex.the_end
kind_of Unknown = Lex.no_token

abbrev pub token_of : Token → Lex.Token
token_of t = token (kind_of t.kind) (string_bytes t.text) t.place

abbrev pub tokens_of : List Token → List Lex.Token
tokens_of ts = map token_of ts
