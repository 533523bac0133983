-- When a host rests: its open call lacks a token, or asks a server, and waits.
use Rattle.base_types.specs.declared.ids.Fid.{Fid}
use Rattle.host_tables.specs.Stands.{Finds, IsAtRest, IsCoveredFrom, IsDirtyFrom, IsLack, IsWaiting, verdict_from}
use Rattle.host_tables.specs.Tables.{held_of}
use Rattle.host_tables.specs.declared.tables.Tables.{Tables}
use Rattle.message_types.specs.declared.giving.Give.{Give}
use Rattle.need_host.specs.Calls.Verdict.{Asks, Gives}
use Rattle.need_host.specs.Questions.{Question}
use Rattle.run_rules.specs.Past.{In}
use Rattle.run_rules.specs.Tokens.{FreesPinned, IsKnown, Made, end_of}
use Rattle.run_rules.specs.declared.step.Asked.{Asked}
use Rattle.run_rules.specs.declared.step.Labelled.{Labelled}
use Rattle.run_rules.specs.declared.step.Step.{Step}
use Rattle.std.specs.Prelude.{List, None, Some, ◌≡◌}
use Rattle.token_types.specs.declared.token.Need.{Need}
use Rattle.token_types.specs.declared.token.Token.{Token}
use Rattle.tree_calls.specs.declared.call.Call.TheVariants.{Sync}
use Rattle.tree_calls.specs.declared.place.Place.{Place as NamedPlace}

-- a call that lacks a token can't be answered, and has nothing to give back
abbrev pub LackRests : Type 0
LackRests = (m : Tables) (past : List Step) (c : Asked) (need : Need) → m.call ≡ Some c → IsLack m c.call need
    → IsWaiting m past c.call → IsAtRest m past

-- nor can one of which a server has to be asked
abbrev pub AskRests : Type 0
AskRests = (m : Tables) (past : List Step) (c : Asked) (question : Question) → m.call ≡ Some c
    → verdict_from m c.call ≡ Asks question → IsWaiting m past c.call → IsAtRest m past

-- nor a Sync, or the end of a label, that was given back for: nothing is dirty under what it finds,
-- and it isn't the last use of a pinned token any more
abbrev pub GiveRests : Type 0
GiveRests = (m : Tables) (past : List Step) (c : Asked) (g : Give) → m.call ≡ Some c → verdict_from m c.call ≡ Gives
    → IsCoveredFrom m c.call → Made past g → (IsKnown past g → ⊥)
    → ((place : NamedPlace) (fid : Fid) (t : Token) → c.call ≡ Sync place → Finds m place fid → In t (held_of m)
    → t.fid ≡ fid → IsDirtyFrom m past t → ⊥)
    → ((u : Labelled) → c.call ≡ end_of u → FreesPinned past u → ⊥) → IsAtRest m past

-- with no call open a host rests where it asks for nothing
abbrev pub IdleRests : Type 0
IdleRests = (m : Tables) (past : List Step) → m.call ≡ None → m.request ≡ None → IsAtRest m past
