use Rattle.std.proofs.Common.{◌≡◌, ◌∷◌, [], map, rules, codes}
use Rattle.clap.specs.Simple.{app_of}
use Rattle.program_words.proofs.Accepted.{app, IsModeParser, names_parser, mode_is, local_is, command_is, parse_taken, parse_refused}
use Rattle.program_words.proofs.parse.Goals as goal

pub returns-clause-taken : goal.returns-clause-taken
returns-clause-taken c =
    let q = c.value_parser-mode.ensures.given in
    let names : map (λ s. s.now) c.as_slice.result.now ≡ codes "check" ∷ codes "log" ∷ codes "replay" ∷ [] = search rules in
    let parser : IsModeParser q.0 = names_parser c.as_slice.result q.0 q.2 names in
    let local = local_is c.new.result c.required.result c.action.result c.value_parser-mode.result c.new.ensures.optional.1 c.required.ensures c.action.ensures c.value_parser-mode.ensures.others in
    let mode = mode_is c.new.result c.required.result c.action.result c.value_parser-mode.result q.0 c.new.ensures.rule c.required.ensures c.action.ensures c.value_parser-mode.ensures.others q.1 in
    let made : app_of c.in_ok-command.command ≡ app q.0 = command_is c.new-2.result c.disable_help_flag.result c.in_ok-command.command c.value_parser-mode.result q.0 c.new-2.ensures.app c.disable_help_flag.ensures (c.in_ok-command.ensures.shape local) mode in
    parse_taken _ q.0 _ c.try_get_matches_from.result made parser c.try_get_matches_from.ensures.kinds c.try_get_matches_from.ensures.matches

pub returns-clause-refused : goal.returns-clause-refused
returns-clause-refused c =
    let q = c.value_parser-mode.ensures.given in
    let names : map (λ s. s.now) c.as_slice.result.now ≡ codes "check" ∷ codes "log" ∷ codes "replay" ∷ [] = search rules in
    let parser : IsModeParser q.0 = names_parser c.as_slice.result q.0 q.2 names in
    let local = local_is c.new.result c.required.result c.action.result c.value_parser-mode.result c.new.ensures.optional.1 c.required.ensures c.action.ensures c.value_parser-mode.ensures.others in
    let mode = mode_is c.new.result c.required.result c.action.result c.value_parser-mode.result q.0 c.new.ensures.rule c.required.ensures c.action.ensures c.value_parser-mode.ensures.others q.1 in
    let made : app_of c.in_ok-command.command ≡ app q.0 = command_is c.new-2.result c.disable_help_flag.result c.in_ok-command.command c.value_parser-mode.result q.0 c.new-2.ensures.app c.disable_help_flag.ensures (c.in_ok-command.ensures.shape local) mode in
    parse_refused _ q.0 _ c.try_get_matches_from.result made parser c.try_get_matches_from.ensures.passes
