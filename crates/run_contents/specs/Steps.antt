-- What a host's step writes, shows and gives back, part by part, in the journal's words.
use Rattle.std.specs.Prelude.{List, None, Option, Some, [], if◌then◌else◌, length, nat_le, nat_lt, ℕ, ◌&&◌, ◌+◌, ◌-◌}
use Rattle.std.specs.Prelude.{◌∷◌, ◌≡◌}
use Rattle.base_types.specs.Image.{byte_at}
use Rattle.base_types.specs.declared.ids.Fid.{Fid}
use Rattle.base_types.specs.declared.ids.FilesetId.{FilesetId}
use Rattle.base_types.specs.declared.ids.HostId.{HostId}
use Rattle.tree_calls.specs.declared.call.Call.{Call}
use Rattle.tree_calls.specs.declared.call.Call.TheVariants.{Write}
use Rattle.need_host.specs.Walks.{root_of}
use Rattle.message_types.specs.declared.giving.Give.{Give}
use Rattle.message_types.specs.declared.message.Body.{Body}
use Rattle.message_types.specs.declared.message.Body.TheVariants.{Grant}
use Rattle.message_types.specs.declared.telling.Grant.{Grant as GrantOf}
use Rattle.script_lines.specs.declared.script.Script.{Script}
use Rattle.tree_laws.specs.Parts.{Part, Seen}
use Rattle.tree_laws.specs.Parts.Part.{ByteAt, Size, Traits, Entries}
use Rattle.run_rules.specs.HostMay.{HostMay}
use Rattle.run_rules.specs.Views.{byte_of, gives_at, is_shown, part_told, sees, writes_to}
use Rattle.run_parts.specs.Contents.{Contents}
use Rattle.run_rules.specs.declared.applied.Answer.{Answer}
use Rattle.run_rules.specs.declared.step.Cause.{Cause}
use Rattle.run_rules.specs.declared.step.Cause.TheVariants.{Message as Came}
use Rattle.run_rules.specs.declared.step.Step.{Step}

-- the bytes that a call writes, and from where on
pub record Written : Type 0 where
  pub from : ℕ
  pub bytes : List ℕ

abbrev pub written_by : Call → Option Written
written_by (Write place from bytes) = Some (record { from = from; bytes = bytes })
written_by _ = None

-- a step answers one call at most
abbrev pub written_in : List Answer → Option Written
written_in [] = None
written_in (a ∷ answers) = written_by a.call

-- what that leaves of a part, where it changes it; a size only grows
abbrev pub written_at : Option Written → ℕ → (part : Part) → Option (Seen part)
written_at None size part = None
written_at (Some w) size (ByteAt at) =
    if nat_le w.from at && nat_lt at (w.from + length w.bytes) then Some (byte_at w.bytes (at - w.from)) else None
written_at (Some w) size Size =
    if nat_lt size (w.from + length w.bytes) then Some (w.from + length w.bytes) else None
written_at (Some w) size Traits = None
written_at (Some w) size Entries = None

abbrev pub wrote : List Step → Step → Fid → (part : Part) → Option (Seen part)
wrote past s fid part = if writes_to s fid then written_at (written_in s.answers) (sees past s fid Size) part else None

-- what a Grant tells, under the tokens that are taken
abbrev pub told_by : Body → (part : Part) → Option (Seen part)
told_by (Grant grant) part = Some (part_told grant part)
told_by _ part = None

abbrev pub told_in : Cause → (part : Part) → Option (Seen part)
told_in (Came m) part = told_by m.body part
told_in _ part = None

abbrev pub shown : Step → Fid → (part : Part) → Option (Seen part)
shown s fid part = if is_shown s fid part then told_in s.cause part else None

-- what a give-back has
abbrev pub gives : Give → (part : Part) → Option (Seen part)
gives give (ByteAt at) = byte_of give.pieces at
gives give Size = give.length
gives give Traits = None
gives give Entries = None

-- a host's own steps meet its rules
abbrev pub HostRun : Script → HostId → List Step → Type 0
HostRun script host [] = Unit {0}
HostRun script host (s ∷ past) = HostRun script host past × HostMay script host past s

-- what a host's step writes, shows and gives back is what the journal's step says
pub record IsOfJournal (c : Contents) : Type 0 where
  pub wrote : (past : List Step) (s : Step) (f : Fid) (p : Part) → c.wrote past s f p ≡ wrote past s f p
  pub shown : (s : Step) (f : Fid) (p : Part) → c.shown s f p ≡ shown s f p
  pub gives : (g : Give) (p : Part) → c.gives g p ≡ gives g p
  pub hands : (s : Step) (f : Fid) (at : ℕ) → c.hands s f at ≡ gives_at s f at
  pub tells : (g : GrantOf) (p : Part) → c.tells g p ≡ part_told g p
  pub root : (fs : FilesetId) → c.root fs ≡ root_of fs
