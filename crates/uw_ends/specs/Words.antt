-- The words of the command line, and the command that they say (own rule).
use Rattle.std.specs.Prelude.{ℕ, ◌-◌, ◌^◌, Bool, true, if◌then◌else◌, List, [], ◌∷◌, Option, None, Some, option_map, option_and_then, codes}
use Rattle.std.specs.Str.{bytes_eq}
use Rattle.clap.specs.Walk.{Rule, Text, first_of, is_empty}
use Rattle.clap.specs.Simple.{App, matches_of, new_app, new_rule, on_top, with_rule}
use Rattle.clap.specs.Faults.{fault_of}
use Rattle.uw_ends.specs.Numbers.{deaths_of, number_within}
use Rattle.uw_ends.specs.declared.words.Command.{Command}
use Rattle.uw_ends.specs.declared.words.Command.TheVariants.{Pipe, Spool, Steps, Load, Serve}

-- a command of clap that has no program's name before its words, and neither help nor a version; it has no subcommand, and so no help among those
abbrev pub plain_app : Text → App
plain_app name = on_top (λ shape. record shape { no_binary_name = true; disable_help_flag = true; disable_version_flag = true }) (new_app name)

-- the option `--die` with one value, at most once
abbrev pub die_rule : Rule
die_rule = record (new_rule (codes "die")) { long = Some (codes "die") }

-- the command `pipe`, with its one option
abbrev pub pipe_app : App
pipe_app = with_rule (plain_app (codes "pipe")) die_rule

-- a positional that has to be there
abbrev pub required_rule : Text → Rule
required_rule name = record (new_rule name) { required = true }

-- the command `load`, with its two positionals
abbrev pub load_app : App
load_app = with_rule (with_rule (plain_app (codes "load")) (required_rule (codes "first"))) (required_rule (codes "count"))

-- clap takes the words
abbrev pub is_taken : App → List Text → Bool
is_taken app words = is_empty (fault_of app words)

-- the value that clap finds for an argument
abbrev pub argument_value : App → Text → List Text → Option Text
argument_value app name words = first_of name (matches_of app words)

-- a command without words of its own
abbrev pub plain_of : Text → Command → List Text → Option Command
plain_of name command words = if is_taken (plain_app name) words then Some command else None

-- the deaths of `pipe`: none where `--die` is not given
abbrev pub pipe_with : Option Text → Option Command
pipe_with None = Some (Pipe [])
pipe_with (Some text) = option_map (λ deaths. Pipe deaths) (deaths_of text)

-- the words of `pipe`
abbrev pub pipe_of : List Text → Option Command
pipe_of words = if is_taken pipe_app words then pipe_with (argument_value pipe_app (codes "die") words) else None

-- both numbers of `load`
abbrev pub load_with : Option ℕ → Option ℕ → Option Command
load_with (Some first) (Some count) = Some (Load first count)
load_with _ _ = None

-- the number that clap finds for an argument, at most `high`
abbrev pub number_given : App → Text → ℕ → List Text → Option ℕ
number_given app name high words = option_and_then (number_within 0 high) (argument_value app name words)

-- the words of `load`
abbrev pub load_of : List Text → Option Command
load_of words =
    if is_taken load_app words then load_with (number_given load_app (codes "first") (2 ^ 31 - 1) words) (number_given load_app (codes "count") 1000000 words)
    else None

-- the command of a first word, on the words after it
abbrev pub command_named : Text → List Text → Option Command
command_named name words =
    if bytes_eq name (codes "pipe") then pipe_of words
    else (if bytes_eq name (codes "spool") then plain_of (codes "spool") Spool words
    else (if bytes_eq name (codes "steps") then plain_of (codes "steps") Steps words
    else (if bytes_eq name (codes "load") then load_of words
    else (if bytes_eq name (codes "serve") then plain_of (codes "serve") Serve words
    else None))))

-- the command that the words say
abbrev pub command_of : List Text → Option Command
command_of [] = None
command_of (name ∷ words) = command_named name words
