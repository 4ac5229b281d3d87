-- A command with one positional takes exactly the words of one mode.
use Rattle.std.proofs.Common.{◌≡◌, ◌≢◌, ◌⊎◌, inl, inr, refl, sym, ap, ◌∙◌, subst, ℕ, ◌==◌, Bool, true, false, cond, List, [], ◌∷◌, Option, Some, None, Result, Ok, Err, IfOk, IfErr, map, eqb-true}
use Rattle.std.specs.Prelude.{◌||◌, bytes_eq, codes, slice_get, fold, is_some}
use Rattle.std.specs.List.{list_any}
use Rattle.std.specs.Str.{chars}
use Rattle.std.specs.Borrow.{Bor}
use Rattle.std.proofs.lemmas.Bool.{true≢false}
use Rattle.std.proofs.lemmas.Slice.Eq.{bytes_eq-Decides}
use Rattle.clap.specs.Walk.{Held, Rule, rule_of, first_of, Walk, idle, walked, bundle_met, settled, finished, nothing_held}
use Rattle.clap.specs.Matches.{found_of}
use Rattle.clap.specs.declared.parser.matches.ArgMatches.{ArgMatches}
use Rattle.clap.proofs.WalkLemmas.{first_value-rows}
use Rattle.clap.specs.Simple.{App, HasMatchesOf, matches_of, is_simple as is_simple_app, Shape, new_app, new_rule, with_rule, built, entered, app_of, app_of_fields}
use Rattle.clap.specs.Values.{refused_kind, same_text, kind_of}
use Rattle.clap.specs.Kinds.{Kinds, or_else, FailsBy}
use Rattle.clap.specs.Faults.{walk_fault, flags_fault, settle_fault, defaults_fault, check_fault, entered_fault, fault_of, is_simple_and_free}
use Rattle.clap.specs.Takes.{takes}
use Rattle.clap.specs.ValueTests.{accepts}
use Rattle.clap.specs.declared.builder.action.ArgAction.TheVariants.{Set}
use Rattle.clap.specs.declared.builder.arg.Arg.{Arg}
use Rattle.clap.specs.declared.builder.command.Command.{Command}
use Rattle.clap.specs.declared.builder.command.Command.TheViews.{out-Command as fields_of}
use Rattle.clap.specs.declared.builder.value_parser.ValueParser.{ValueParser}
use Rattle.clap.specs.declared.builder.value_parser.ValueParser.TheVariants.{Names}
use Rattle.clap.specs.declared.error.Error.{Error}
use Rattle.clap.specs.declared.error.kind.ErrorKind.TheVariants as kind
use Rattle.clap.proofs.OnLiterals.{clap_on_literals}
use Rattle.program_words.specs.declared.Mode.TheVariants.{Check, Log, Replay}
use Rattle.program_words.specs.Words.{Word, begins_with_minus, modes, with_mode, mode_named, only_mode, mode_of, HasMode}

-- the command: no help flag, and one positional with a test of its values
abbrev pub mode_rule : ValueParser → Rule
mode_rule p = record (new_rule (codes "mode")) { required = true; action = Some Set; parser = Some p }

abbrev pub app : ValueParser → App
app p = with_rule (record (new_app (codes "hbnf")) { top = record (new_app (codes "hbnf")).top { disable_help_flag = true } }) (mode_rule p)

abbrev top : ValueParser → Shape
top p = (built (app p)).top

pub is_simple : (p : ValueParser) → is_simple_and_free (app p) ≡ true
is_simple p = refl

-- ---- words that are taken

-- a word that is a mode's name
abbrev pub IsMode : Word → Type 0
IsMode m = (m ≡ codes "check") ⊎ ((m ≡ codes "log") ⊎ (m ≡ codes "replay"))

check_alone : (p : ValueParser) (program : Word) → accepts false p (codes "check") ≡ true → takes (app p) (program ∷ codes "check" ∷ []) ≡ true
unfolding clap_on_literals walked
check_alone p program a = rw a refl

check_behind : (p : ValueParser) (program : Word) → accepts false p (codes "check") ≡ true → takes (app p) (program ∷ codes "--" ∷ codes "check" ∷ []) ≡ true
unfolding clap_on_literals walked
check_behind p program a = rw a refl

check_before : (p : ValueParser) (program : Word) → accepts false p (codes "check") ≡ true → takes (app p) (program ∷ codes "check" ∷ codes "--" ∷ []) ≡ true
unfolding clap_on_literals walked
check_before p program a = rw a refl

log_alone : (p : ValueParser) (program : Word) → accepts false p (codes "log") ≡ true → takes (app p) (program ∷ codes "log" ∷ []) ≡ true
unfolding clap_on_literals walked
log_alone p program a = rw a refl

log_behind : (p : ValueParser) (program : Word) → accepts false p (codes "log") ≡ true → takes (app p) (program ∷ codes "--" ∷ codes "log" ∷ []) ≡ true
unfolding clap_on_literals walked
log_behind p program a = rw a refl

log_before : (p : ValueParser) (program : Word) → accepts false p (codes "log") ≡ true → takes (app p) (program ∷ codes "log" ∷ codes "--" ∷ []) ≡ true
unfolding clap_on_literals walked
log_before p program a = rw a refl

replay_alone : (p : ValueParser) (program : Word) → accepts false p (codes "replay") ≡ true → takes (app p) (program ∷ codes "replay" ∷ []) ≡ true
unfolding clap_on_literals walked
replay_alone p program a = rw a refl

replay_behind : (p : ValueParser) (program : Word) → accepts false p (codes "replay") ≡ true → takes (app p) (program ∷ codes "--" ∷ codes "replay" ∷ []) ≡ true
unfolding clap_on_literals walked
replay_behind p program a = rw a refl

replay_before : (p : ValueParser) (program : Word) → accepts false p (codes "replay") ≡ true → takes (app p) (program ∷ codes "replay" ∷ codes "--" ∷ []) ≡ true
unfolding clap_on_literals walked
replay_before p program a = rw a refl

-- the parser takes the names of the modes, and nothing else
pub record IsModeParser (p : ValueParser) : Type 0 where
  pub takes_check : accepts false p (codes "check") ≡ true
  pub takes_log : accepts false p (codes "log") ≡ true
  pub takes_replay : accepts false p (codes "replay") ≡ true
  pub takes_no_other : (t : Word) → accepts false p t ≡ true → IsMode t

alone_taken : (p : ValueParser) (program m : Word) → IsModeParser p → IsMode m → takes (app p) (program ∷ m ∷ []) ≡ true
alone_taken p program m k (inl e) = subst (λ (x : Word). takes (app p) (program ∷ x ∷ []) ≡ true) (sym e) (check_alone p program k.takes_check)
alone_taken p program m k (inr (inl e)) = subst (λ (x : Word). takes (app p) (program ∷ x ∷ []) ≡ true) (sym e) (log_alone p program k.takes_log)
alone_taken p program m k (inr (inr e)) = subst (λ (x : Word). takes (app p) (program ∷ x ∷ []) ≡ true) (sym e) (replay_alone p program k.takes_replay)

behind_taken : (p : ValueParser) (program m : Word) → IsModeParser p → IsMode m → takes (app p) (program ∷ codes "--" ∷ m ∷ []) ≡ true
behind_taken p program m k (inl e) = subst (λ (x : Word). takes (app p) (program ∷ codes "--" ∷ x ∷ []) ≡ true) (sym e) (check_behind p program k.takes_check)
behind_taken p program m k (inr (inl e)) = subst (λ (x : Word). takes (app p) (program ∷ codes "--" ∷ x ∷ []) ≡ true) (sym e) (log_behind p program k.takes_log)
behind_taken p program m k (inr (inr e)) = subst (λ (x : Word). takes (app p) (program ∷ codes "--" ∷ x ∷ []) ≡ true) (sym e) (replay_behind p program k.takes_replay)

before_taken : (p : ValueParser) (program m : Word) → IsModeParser p → IsMode m → takes (app p) (program ∷ m ∷ codes "--" ∷ []) ≡ true
before_taken p program m k (inl e) = subst (λ (x : Word). takes (app p) (program ∷ x ∷ codes "--" ∷ []) ≡ true) (sym e) (check_before p program k.takes_check)
before_taken p program m k (inr (inl e)) = subst (λ (x : Word). takes (app p) (program ∷ x ∷ codes "--" ∷ []) ≡ true) (sym e) (log_before p program k.takes_log)
before_taken p program m k (inr (inr e)) = subst (λ (x : Word). takes (app p) (program ∷ x ∷ codes "--" ∷ []) ≡ true) (sym e) (replay_before p program k.takes_replay)

-- ---- words that are refused

-- the walk where no mode was met, and behind one; behind `--` or not
abbrev at_first : Bool → Walk
at_first t = record { held = nothing_held; waiting = idle; position = 1; is_trailing = t; stopped = None }

abbrev holding : Word → Held
holding m = record { rows = []; pending = Some (codes "mode", m ∷ []); skip = 0 }

abbrev at_second : Bool → Word → Walk
at_second t m = record { held = holding m; waiting = idle; position = 2; is_trailing = t; stopped = None }

-- what the words come to from there, and where the walk is behind them
abbrev fault_from : ValueParser → Walk → List Word → Kinds
fault_from p w ws = walk_fault (top p) [] w ws

abbrev walk_by : ValueParser → Walk → List Word → Walk
walk_by p w ws = fold (walked (top p).rules []) w ws

abbrev unknown : Kinds
unknown = kind.UnknownArgument ∷ []

not_none : unknown ≡ [] → ⊥
not_none e = cc

abbrev minus_twice : Word
minus_twice = 45 ∷ 45 ∷ []

-- a word behind a mode
trailing_second : (p : ValueParser) (m w : Word) (ws : List Word) → fault_from p (at_second true m) (w ∷ ws) ≡ unknown
unfolding walk_fault walked
trailing_second p m w ws = refl

plain_second : (p : ValueParser) (m : Word) (c : ℕ) (cs : Word) (ws : List Word) → (c == 45) ≡ false → fault_from p (at_second false m) ((c ∷ cs) ∷ ws) ≡ unknown
unfolding walk_fault walked
plain_second p m c cs ws e = rw e (rw e refl)

empty_second : (p : ValueParser) (m : Word) (ws : List Word) → fault_from p (at_second false m) ([] ∷ ws) ≡ unknown
unfolding walk_fault walked
empty_second p m ws = refl

minus_second : (p : ValueParser) (m : Word) (ws : List Word) → fault_from p (at_second false m) ((45 ∷ []) ∷ ws) ≡ unknown
unfolding walk_fault walked
minus_second p m ws = refl

long_second : (p : ValueParser) (m : Word) (x : ℕ) (xs : Word) (ws : List Word) → fault_from p (at_second false m) ((45 ∷ 45 ∷ x ∷ xs) ∷ ws) ≡ unknown
unfolding walk_fault walked
long_second p m x xs ws = refl

short_second : (p : ValueParser) (m : Word) (d : ℕ) (ds : Word) (ws : List Word) (o : Option ℕ) → (d == 45) ≡ false → slice_get (chars (d ∷ ds)) 0 ≡ o → fault_from p (at_second false m) ((45 ∷ d ∷ ds) ∷ ws) ≡ unknown
unfolding walk_fault walked flags_fault bundle_met
short_second p m d ds ws (Some x) e o = rw e (rw e (rw o refl))
short_second p m d ds ws None e o = rw e (rw e (rw o refl))

-- the first character of a list, as the test of its number
same_minus : (c : ℕ) → (c == 45) ≡ true → c ≡ 45
same_minus c e = eqb-true c 45 e

other_second : (p : ValueParser) (m w : Word) (ws : List Word) → (w ≡ minus_twice → ⊥) → fault_from p (at_second false m) (w ∷ ws) ≡ unknown
other_second p m [] ws n = empty_second p m ws
other_second p m (c ∷ cs) ws n = at (c == 45) refl cs n
  where
    after : (d : ℕ) (ds : Word) (b : Bool) → (d == 45) ≡ b → ((45 ∷ d ∷ ds) ≡ minus_twice → ⊥) → fault_from p (at_second false m) ((45 ∷ d ∷ ds) ∷ ws) ≡ unknown
    after d ds false e k = short_second p m d ds ws (slice_get (chars (d ∷ ds)) 0) e refl
    after d [] true e k = absurd (k (ap (λ (x : ℕ). 45 ∷ x ∷ []) (same_minus d e)))
    after d (x ∷ xs) true e k = subst (λ (y : ℕ). fault_from p (at_second false m) ((45 ∷ y ∷ x ∷ xs) ∷ ws) ≡ unknown) (sym (same_minus d e)) (long_second p m x xs ws)

    behind : (cs : Word) → ((45 ∷ cs) ≡ minus_twice → ⊥) → fault_from p (at_second false m) ((45 ∷ cs) ∷ ws) ≡ unknown
    behind [] k = minus_second p m ws
    behind (d ∷ ds) k = after d ds (d == 45) refl k

    at : (b : Bool) → (c == 45) ≡ b → (cs : Word) → ((c ∷ cs) ≡ minus_twice → ⊥) → fault_from p (at_second false m) ((c ∷ cs) ∷ ws) ≡ unknown
    at false e cs k = plain_second p m c cs ws e
    at true e cs k = subst (λ (y : ℕ). ((y ∷ cs) ≡ minus_twice → ⊥) → fault_from p (at_second false m) ((y ∷ cs) ∷ ws) ≡ unknown) (sym (same_minus c e)) (behind cs) k

-- ---- a word before any mode: it is refused, or is one

data Met (p : ValueParser) (w : Word) (ws : List Word) : Type 0 where
  refused : fault_from p (at_first false) (w ∷ ws) ≡ unknown → Met p w ws
  taken : fault_from p (at_first false) (w ∷ ws) ≡ fault_from p (at_second false w) ws → walked (top p).rules [] (at_first false) w ≡ at_second false w → Met p w ws

plain_first : (p : ValueParser) (c : ℕ) (cs : Word) (ws : List Word) → (c == 45) ≡ false → Met p (c ∷ cs) ws
unfolding walk_fault walked
plain_first p c cs ws e = taken (rw e (rw e refl)) (rw e (rw e refl))

empty_first : (p : ValueParser) (ws : List Word) → Met p [] ws
unfolding walk_fault walked
empty_first p ws = taken refl refl

minus_first : (p : ValueParser) (ws : List Word) → Met p (45 ∷ []) ws
unfolding walk_fault walked
minus_first p ws = taken refl refl

long_first : (p : ValueParser) (x : ℕ) (xs : Word) (ws : List Word) → Met p (45 ∷ 45 ∷ x ∷ xs) ws
unfolding walk_fault walked
long_first p x xs ws = refused refl

short_first : (p : ValueParser) (d : ℕ) (ds : Word) (ws : List Word) (o : Option ℕ) → (d == 45) ≡ false → slice_get (chars (d ∷ ds)) 0 ≡ o → Met p (45 ∷ d ∷ ds) ws
unfolding walk_fault walked flags_fault bundle_met
short_first p d ds ws (Some x) e o = refused (rw e (rw e (rw o refl)))
short_first p d ds ws None e o = taken (rw e (rw e (rw o refl))) (rw e (rw e (rw o refl)))

other_first : (p : ValueParser) (w : Word) (ws : List Word) → (w ≡ minus_twice → ⊥) → Met p w ws
other_first p [] ws n = empty_first p ws
other_first p (c ∷ cs) ws n = at (c == 45) refl cs n
  where
    after : (d : ℕ) (ds : Word) (b : Bool) → (d == 45) ≡ b → ((45 ∷ d ∷ ds) ≡ minus_twice → ⊥) → Met p (45 ∷ d ∷ ds) ws
    after d ds false e k = short_first p d ds ws (slice_get (chars (d ∷ ds)) 0) e refl
    after d [] true e k = absurd (k (ap (λ (x : ℕ). 45 ∷ x ∷ []) (same_minus d e)))
    after d (x ∷ xs) true e k = subst (λ (y : ℕ). Met p (45 ∷ y ∷ x ∷ xs) ws) (sym (same_minus d e)) (long_first p x xs ws)

    behind : (cs : Word) → ((45 ∷ cs) ≡ minus_twice → ⊥) → Met p (45 ∷ cs) ws
    behind [] k = minus_first p ws
    behind (d ∷ ds) k = after d ds (d == 45) refl k

    at : (b : Bool) → (c == 45) ≡ b → (cs : Word) → ((c ∷ cs) ≡ minus_twice → ⊥) → Met p (c ∷ cs) ws
    at false e cs k = plain_first p c cs ws e
    at true e cs k = subst (λ (y : ℕ). ((y ∷ cs) ≡ minus_twice → ⊥) → Met p (y ∷ cs) ws) (sym (same_minus c e)) (behind cs) k

-- ---- all the words

-- what words without a fault are
data Came (p : ValueParser) (ws : List Word) : Type 0 where
  nothing : (t : Bool) → walk_by p (at_first false) ws ≡ at_first t → Came p ws
  one : (t : Bool) (m : Word) → walk_by p (at_first false) ws ≡ at_second t m → (IsMode m → modes ws ≡ Some (m ∷ [])) → Came p ws

end_second : (p : ValueParser) (m : Word) (ws : List Word) → fault_from p (at_second true m) ws ≡ [] → ws ≡ []
end_second p m [] e = refl
end_second p m (w ∷ ws) e = absurd (not_none (sym (trailing_second p m w ws) ∙ e))

dashes_second : (p : ValueParser) (m : Word) (ws : List Word) → (fault_from p (at_second false m) (minus_twice ∷ ws) ≡ fault_from p (at_second true m) ws) × (walked (top p).rules [] (at_second false m) minus_twice ≡ at_second true m)
unfolding walk_fault walked
dashes_second p m ws = (refl, refl)

behind_second : (p : ValueParser) (m w : Word) (ws : List Word) → fault_from p (at_second false m) (w ∷ ws) ≡ [] → (w ∷ ws) ≡ minus_twice ∷ []
behind_second p m w ws e = at (bytes_eq w minus_twice) refl
  where
    at : (b : Bool) → bytes_eq w minus_twice ≡ b → (w ∷ ws) ≡ minus_twice ∷ []
    at false q = absurd (not_none (sym (other_second p m w ws (λ h. true≢false (sym ((bytes_eq-Decides w minus_twice).1 h) ∙ q))) ∙ e))
    at true q =
        let same : w ≡ minus_twice = (bytes_eq-Decides w minus_twice).0 q in
        let here : fault_from p (at_second false m) (minus_twice ∷ ws) ≡ [] = subst (λ (v : Word). fault_from p (at_second false m) (v ∷ ws) ≡ []) same e in
        let none : ws ≡ [] = end_second p m ws (sym (dashes_second p m ws).0 ∙ here) in
        (λ i. same i ∷ none i)

dashes_first : (p : ValueParser) (ws : List Word) → (fault_from p (at_first false) (minus_twice ∷ ws) ≡ fault_from p (at_first true) ws) × (walked (top p).rules [] (at_first false) minus_twice ≡ at_first true)
unfolding walk_fault walked
dashes_first p ws = (refl, refl)

trailing_first : (p : ValueParser) (m : Word) (ws : List Word) → (fault_from p (at_first true) (m ∷ ws) ≡ fault_from p (at_second true m) ws) × (walked (top p).rules [] (at_first true) m ≡ at_second true m)
unfolding walk_fault walked
trailing_first p m ws = (refl, refl)

-- behind `--`
came_trailing : (p : ValueParser) (ws : List Word) → fault_from p (at_first true) ws ≡ [] → Came p (minus_twice ∷ ws)
came_trailing p [] e = nothing true (dashes_first p []).1
came_trailing p (m ∷ ws) e =
    let none : ws ≡ [] = end_second p m ws (sym (trailing_first p m ws).0 ∙ e) in
    subst (λ (vs : List Word). Came p (minus_twice ∷ m ∷ vs)) (sym none)
    (one true m (ap (λ (w : Walk). walked (top p).rules [] w m) (dashes_first p (m ∷ [])).1 ∙ (trailing_first p m []).1) (λ c. refl))

mode_alone : (m : Word) → IsMode m → modes (m ∷ []) ≡ Some (m ∷ [])
mode_alone m (inl e) = subst (λ (x : Word). modes (x ∷ []) ≡ Some (x ∷ [])) (sym e) refl
mode_alone m (inr (inl e)) = subst (λ (x : Word). modes (x ∷ []) ≡ Some (x ∷ [])) (sym e) refl
mode_alone m (inr (inr e)) = subst (λ (x : Word). modes (x ∷ []) ≡ Some (x ∷ [])) (sym e) refl

mode_before : (m : Word) → IsMode m → modes (m ∷ minus_twice ∷ []) ≡ Some (m ∷ [])
mode_before m (inl e) = subst (λ (x : Word). modes (x ∷ minus_twice ∷ []) ≡ Some (x ∷ [])) (sym e) refl
mode_before m (inr (inl e)) = subst (λ (x : Word). modes (x ∷ minus_twice ∷ []) ≡ Some (x ∷ [])) (sym e) refl
mode_before m (inr (inr e)) = subst (λ (x : Word). modes (x ∷ minus_twice ∷ []) ≡ Some (x ∷ [])) (sym e) refl

-- a mode, and what stands behind it
came_mode : (p : ValueParser) (m : Word) (ws : List Word) → walked (top p).rules [] (at_first false) m ≡ at_second false m → fault_from p (at_second false m) ws ≡ [] → Came p (m ∷ ws)
came_mode p m [] t e = one false m t (λ c. mode_alone m c)
came_mode p m (w ∷ ws) t e =
    subst (λ (vs : List Word). Came p (m ∷ vs)) (sym (behind_second p m w ws e))
    (one true m (ap (λ (x : Walk). walked (top p).rules [] x minus_twice) t ∙ (dashes_second p m []).1) (λ c. mode_before m c))

met : (p : ValueParser) (w : Word) (ws : List Word) → Met p w ws → fault_from p (at_first false) (w ∷ ws) ≡ [] → Came p (w ∷ ws)
met p w ws (refused r) e = absurd (not_none (sym r ∙ e))
met p w ws (taken f t) e = came_mode p w ws t (sym f ∙ e)

came : (p : ValueParser) (ws : List Word) → fault_from p (at_first false) ws ≡ [] → Came p ws
came p [] e = nothing false refl
came p (w ∷ ws) e = at (bytes_eq w minus_twice) refl
  where
    at : (b : Bool) → bytes_eq w minus_twice ≡ b → Came p (w ∷ ws)
    at false q = met p w ws (other_first p w ws (λ h. true≢false (sym ((bytes_eq-Decides w minus_twice).1 h) ∙ q))) e
    at true q =
        let same : w ≡ minus_twice = (bytes_eq-Decides w minus_twice).0 q in
        let here : fault_from p (at_first false) (minus_twice ∷ ws) ≡ [] = subst (λ (v : Word). fault_from p (at_first false) (v ∷ ws) ≡ []) same e in
        subst (λ (v : Word). Came p (v ∷ ws)) (sym same) (came_trailing p ws (sym (dashes_first p ws).0 ∙ here))

-- ---- the whole parse

-- what is wrong once the words are over
abbrev end_fault : ValueParser → Walk → Kinds
end_fault p w =
    or_else (entered_fault (built (app p)) w.stopped) (or_else (settle_fault (top p).rules (top p).args_override_self w.held)
    (or_else (defaults_fault (settled (top p).rules w.held).rows (top p).rules) (check_fault (top p) (finished (top p).rules w.held) (is_some (entered (built (app p)) w.stopped)))))

parse_is : (p : ValueParser) (program : Word) (ws : List Word) → fault_of (app p) (program ∷ ws) ≡ or_else (fault_from p (at_first false) ws) (end_fault p (walk_by p (at_first false) ws))
parse_is p program ws = refl

front_none : (a b : Kinds) → or_else a b ≡ [] → (a ≡ []) × (b ≡ [])
front_none [] b e = (refl, e)
front_none (k ∷ ks) b e = absurd cc

no_mode : (p : ValueParser) (t : Bool) → end_fault p (at_first t) ≡ kind.MissingRequiredArgument ∷ []
unfolding defaults_fault
no_mode p t = refl

other_mode : (p : ValueParser) (t : Bool) (m : Word) → accepts false p m ≡ false → end_fault p (at_second t m) ≡ refused_kind p ∷ []
unfolding defaults_fault
other_mode p t m e = rw e refl

no_words : (p : ValueParser) → fault_of (app p) [] ≡ kind.MissingRequiredArgument ∷ []
unfolding defaults_fault walk_fault
no_words p = refl

-- what a walk leaves behind a mode
found_second : (p : ValueParser) (t : Bool) (m : Word) → first_of (codes "mode") (finished (top p).rules (at_second t m).held) ≡ Some m
found_second p t m = refl

matches_are : (p : ValueParser) (program : Word) (ws : List Word) → matches_of (app p) (program ∷ ws) ≡ finished (top p).rules (walk_by p (at_first false) ws).held
matches_are p program ws = refl

-- the mode that words without a fault come to
record IsFound (p : ValueParser) (words : List Word) : Type 0 where
  word : Word
  found : first_of (codes "mode") (matches_of (app p) words) ≡ Some word
  mode : mode_of words ≡ mode_named word

-- a parse without a fault
passes_found : (p : ValueParser) → IsModeParser p → (words : List Word) → fault_of (app p) words ≡ [] → IsFound p words
passes_found p h [] e = (let f : kind.MissingRequiredArgument ∷ [] ≡ [] = sym (no_words p) ∙ e in absurd cc)
passes_found p h (program ∷ ws) e =
    let q = front_none (fault_from p (at_first false) ws) (end_fault p (walk_by p (at_first false) ws)) (sym (parse_is p program ws) ∙ e) in
    at (came p ws q.0) q.1
  where
    mode : (t : Bool) (m : Word) → walk_by p (at_first false) ws ≡ at_second t m → (IsMode m → modes ws ≡ Some (m ∷ [])) → end_fault p (at_second t m) ≡ [] → (b : Bool) → accepts false p m ≡ b → IsFound p (program ∷ ws)
    mode t m w c f true a = record {
      word = m;
      found = ap (first_of (codes "mode")) (matches_are p program ws) ∙ ap (λ (x : Walk). first_of (codes "mode") (finished (top p).rules x.held)) w ∙ found_second p t m;
      mode = ap only_mode (c (h.takes_no_other m a));
    }
    mode t m w c f false a = (let g : refused_kind p ∷ [] ≡ [] = sym (other_mode p t m a) ∙ f in absurd cc)

    at : Came p ws → end_fault p (walk_by p (at_first false) ws) ≡ [] → IsFound p (program ∷ ws)
    at (nothing t w) f = (let g : kind.MissingRequiredArgument ∷ [] ≡ [] = sym (no_mode p t) ∙ ap (end_fault p) (sym w) ∙ f in absurd cc)
    at (one t m w c) f = mode t m w c (ap (end_fault p) (sym w) ∙ f) (accepts false p m) refl

-- ---- accepted words

same_some : {A : Type 0} (x y : A) → Some x ≡ Some y → x ≡ y
same_some x y e = cc

no_modes : (ws : List Word) → modes ws ≡ Some [] → (ws ≡ []) ⊎ (ws ≡ minus_twice ∷ [])
no_modes [] e = inl refl
no_modes (w ∷ ws) e = at (bytes_eq w minus_twice) (begins_with_minus w) refl (modes ws) e
  where
    at : (b d : Bool) → bytes_eq w minus_twice ≡ b → (o : Option (List Word)) → cond b (Some ws) (cond d None (with_mode w o)) ≡ Some [] → ((w ∷ ws) ≡ []) ⊎ ((w ∷ ws) ≡ minus_twice ∷ [])
    at true d q o f = (let same : w ≡ minus_twice = (bytes_eq-Decides w minus_twice).0 q in let none : ws ≡ [] = same_some ws [] f in inr (λ i. same i ∷ none i))
    at false true q o f = absurd cc
    at false false q None f = absurd cc
    at false false q (Some vs) f = (let g : w ∷ vs ≡ [] = same_some (w ∷ vs) [] f in absurd cc)

named_is : (m : Word) → mode_named m ≢ None → IsMode m
named_is m n = at (bytes_eq m (codes "check")) refl (bytes_eq m (codes "log")) refl (bytes_eq m (codes "replay")) refl n
  where
    at : (b : Bool) → bytes_eq m (codes "check") ≡ b → (d : Bool) → bytes_eq m (codes "log") ≡ d → (f : Bool) → bytes_eq m (codes "replay") ≡ f → cond b (Some Check) (cond d (Some Log) (cond f (Some Replay) None)) ≢ None → IsMode m
    at true q d r f t k = inl ((bytes_eq-Decides m (codes "check")).0 q)
    at false q true r f t k = inr (inl ((bytes_eq-Decides m (codes "log")).0 r))
    at false q false r true t k = inr (inr ((bytes_eq-Decides m (codes "replay")).0 t))
    at false q false r false t k = absurd (k refl)

one_is : (vs : List Word) → only_mode (Some vs) ≢ None → (m : Word) × (vs ≡ m ∷ []) × IsMode m
one_is [] n = absurd (n refl)
one_is (m ∷ []) n = (m, refl, named_is m n)
one_is (m ∷ k ∷ ms) n = absurd (n refl)

-- the words of one mode pass
pub mode_passes : (p : ValueParser) → IsModeParser p → (words : List Word) → mode_of words ≢ None → takes (app p) words ≡ true
mode_passes p a [] n = absurd (n refl)
mode_passes p a (program ∷ []) n = absurd (n refl)
mode_passes p a (program ∷ w ∷ ws) n = at (bytes_eq w minus_twice) (begins_with_minus w) refl (modes ws) refl n
  where
    behind : IsMode w → (vs : List Word) → (vs ≡ []) ⊎ (vs ≡ minus_twice ∷ []) → takes (app p) (program ∷ w ∷ vs) ≡ true
    behind k vs (inl e) = subst (λ (x : List Word). takes (app p) (program ∷ w ∷ x) ≡ true) (sym e) (alone_taken p program w a k)
    behind k vs (inr e) = subst (λ (x : List Word). takes (app p) (program ∷ w ∷ x) ≡ true) (sym e) (before_taken p program w a k)

    at : (b d : Bool) → bytes_eq w minus_twice ≡ b → (o : Option (List Word)) → modes ws ≡ o → only_mode (cond b (Some ws) (cond d None (with_mode w o))) ≢ None → takes (app p) (program ∷ w ∷ ws) ≡ true
    at true d q o m f =
        (let same : w ≡ minus_twice = (bytes_eq-Decides w minus_twice).0 q in
        let one = one_is ws f in
        subst (λ (x : List Word). takes (app p) (program ∷ x) ≡ true) (sym (λ i. same i ∷ one.1 i)) (behind_taken p program one.0 a one.2))
    at false true q o m f = absurd (f refl)
    at false false q None m f = absurd (f refl)
    at false false q (Some []) m f = behind (named_is w f) ws (no_modes ws m)
    at false false q (Some (v ∷ vs)) m f = absurd (f refl)

-- ---- the command that is made

pub mode_is : (a0 a1 a2 a3 : Arg) (q : ValueParser) → rule_of a0 ≡ new_rule (codes "mode") → a1 ≡ record a0 { required = true } → a2 ≡ record a1 { action = Some Set } → a3 ≡ record a2 { value_parser = a3.value_parser } → a3.value_parser ≡ Some q
    → rule_of a3 ≡ mode_rule q
mode_is a0 a1 a2 a3 q e0 e1 e2 e3 v =
    ap rule_of e3 ∙ (λ i. rule_of (record (e2 i) { value_parser = v i })) ∙ (λ i. rule_of (record (e1 i) { action = Some Set; value_parser = Some q }))
    ∙ ap (λ (r : Rule). record r { required = true; action = Some Set; parser = Some q }) e0

pub local_is : (a0 a1 a2 a3 : Arg) → a0.global ≡ false → a1 ≡ record a0 { required = true } → a2 ≡ record a1 { action = Some Set } → a3 ≡ record a2 { value_parser = a3.value_parser } → a3.global ≡ false
local_is a0 a1 a2 a3 g e1 e2 e3 = ap (λ (a : Arg). a.global) e3 ∙ ap (λ (a : Arg). a.global) e2 ∙ ap (λ (a : Arg). a.global) e1 ∙ g

pub command_is : (c0 c1 c2 : Command) (a : Arg) (q : ValueParser) → app_of c0 ≡ new_app (codes "hbnf") → fields_of c1 ≡ record (fields_of c0) { disable_help_flag = true } → (app_of c2 ≡ with_rule (app_of c1) (rule_of a)) → rule_of a ≡ mode_rule q
    → app_of c2 ≡ app q
command_is c0 c1 c2 a q e0 e1 e2 r =
    let changed : app_of c1 ≡ app_with_no_help (app_of c0) = ap app_of_fields e1 in
    e2 ∙ (λ i. with_rule (changed i) (r i)) ∙ ap (λ (b : App). with_rule (app_with_no_help b) (mode_rule q)) e0
  where
    app_with_no_help : App → App
    app_with_no_help b = record b { top = record b.top { disable_help_flag = true } }

-- the names that are compared with a value
only_modes : (n : List Word) (t : Word) → n ≡ codes "check" ∷ codes "log" ∷ codes "replay" ∷ [] → list_any (λ m. same_text false m t) n ≡ true → IsMode t
only_modes n t e h =
    at (bytes_eq (codes "check") t) refl (bytes_eq (codes "log") t) refl (bytes_eq (codes "replay") t) refl (sym (ap (λ (ms : List Word). list_any (λ m. same_text false m t) ms) e) ∙ h)
  where
    at : (b : Bool) → bytes_eq (codes "check") t ≡ b → (d : Bool) → bytes_eq (codes "log") t ≡ d → (f : Bool) → bytes_eq (codes "replay") t ≡ f → (b || (d || (f || false))) ≡ true → IsMode t
    at true q d r f u k = inl (sym ((bytes_eq-Decides (codes "check") t).0 q))
    at false q true r f u k = inr (inl (sym ((bytes_eq-Decides (codes "log") t).0 r)))
    at false q false r true u k = inr (inr (sym ((bytes_eq-Decides (codes "replay") t).0 u)))
    at false q false r false u k = absurd (true≢false (sym k))

-- ---- what the parse says

pub names_parser : (n : Bor (List (Bor Word))) (p : ValueParser) → p ≡ Names n → map (λ s. s.now) n.now ≡ codes "check" ∷ codes "log" ∷ codes "replay" ∷ [] → IsModeParser p
names_parser n p e k = subst IsModeParser (sym e) (record {
  takes_check = any_is n.now (codes "check") ∙ ap (list_any (λ m. same_text false m (codes "check"))) k;
  takes_log = any_is n.now (codes "log") ∙ ap (list_any (λ m. same_text false m (codes "log"))) k;
  takes_replay = any_is n.now (codes "replay") ∙ ap (list_any (λ m. same_text false m (codes "replay"))) k;
  takes_no_other = λ t h. only_modes (map (λ s. s.now) n.now) t k (sym (any_is n.now t) ∙ h);
})
  where
    any_is : (xs : List (Bor Word)) (t : Word) → list_any (λ (name : Bor Word). same_text false name.now t) xs ≡ list_any (λ m. same_text false m t) (map (λ s. s.now) xs)
    any_is [] t = refl
    any_is (x ∷ xs) t = ap (λ (b : Bool). same_text false x.now t || b) (any_is xs t)

simple_app : (p : ValueParser) → is_simple_app (app p) ≡ true
simple_app p = refl

pub parse_taken : (a : App) (p : ValueParser) (words : List Word) (r : Result ArgMatches Error) → a ≡ app p → IsModeParser p → (is_simple_and_free a ≡ true → FailsBy (fault_of a words) r) → IfOk r (HasMatchesOf a words)
    → IfOk r (λ m. HasMode words m)
parse_taken a p words (Ok m) e k f g =
    let found = passes_found p k words (sym (ap (λ (b : App). fault_of b words) e) ∙ f (ap is_simple_and_free e ∙ is_simple p)) in
    let rows = (g (ap is_simple_app e ∙ simple_app p)).0 in
    record {
      word = found.word;
      found = first_value-rows (found_of m) (codes "mode") ∙ ap (first_of (codes "mode")) (rows ∙ ap (λ (b : App). matches_of b words) e) ∙ found.found;
      mode = found.mode;
    }
parse_taken a p words (Err x) e k f g = tt

pub parse_refused : {T : Type 0} (a : App) (p : ValueParser) (words : List Word) (r : Result T Error) → a ≡ app p → IsModeParser p → IfErr r (λ x. takes a words ≡ true → kind_of x ≡ kind.OutOfMemory)
    → IfErr r (λ x. mode_of words ≢ None → kind_of x ≡ kind.OutOfMemory)
parse_refused a p words (Ok m) e k f = tt
parse_refused a p words (Err x) e k f = λ h. f (ap (λ (b : App). takes b words) e ∙ mode_passes p k words h)
