-- How an open call is answered, by the tables.
use Rattle.std.specs.Prelude.{Bool, List, None, Ok, Option, Result, Some, [], false, if◌then◌else◌, nat_lt, ℕ}
use Rattle.std.specs.Prelude.{◌&&◌, true}
use Rattle.std.specs.Bool.{beq}
use Rattle.std.specs.Prelude.{◌++◌, ◌∷◌, ◌≡◌}
use Rattle.base_types.specs.declared.ids.Fid.{Fid}
use Rattle.host_calls.specs.declared.answering.Last.{Last}
use Rattle.host_calls.specs.declared.answering.Last.TheVariants.{Nothing, One, Two}
use Rattle.host_cache.specs.Seen.{after_length, after_set_use, after_write, seen}
use Rattle.host_calls.specs.Looking.{bytes_of, ending_of, meant, taken_label}
use Rattle.host_calls.specs.declared.looking.Verdict.{Verdict}
use Rattle.host_calls.specs.declared.looking.Verdict.TheVariants.{Frees, Lists, Reads, Uses, Writes}
use Rattle.host_dirty.specs.Dirtiness.{Adds}
use Rattle.host_labels.specs.Labels.{after_drop, after_take, has_id, is_lock, use_of}
use Rattle.host_labels.specs.declared.uses.Labelled.{Labelled as UseOf}
use Rattle.host_tables.specs.Tables.{content, held_of}
use Rattle.host_tables.specs.declared.draft.Draft.{Draft}
use Rattle.host_tables.specs.declared.tables.Tables.{Tables}
use Rattle.host_walk.specs.Bytes.{write_needs}
use Rattle.host_walk.specs.Marks.{marks_of, used_all}
use Rattle.host_walk.specs.Trying.{whole_need}
use Rattle.need_host.specs.Calls.{reply_now}
use Rattle.need_host.specs.Looks.{rounded}
use Rattle.run_rules.specs.Past.{In}
use Rattle.run_rules.specs.declared.step.Labelled.{Labelled}
use Rattle.token_types.specs.Covers.{same_opening, same_span}
use Rattle.token_types.specs.declared.token.Kind.{Kind}
use Rattle.token_types.specs.declared.token.Kind.TheVariants.{Bytes, Lock, Opening}
use Rattle.token_types.specs.declared.token.Need.{Need}
use Rattle.tree_calls.specs.declared.call.Call.{Call}
use Rattle.tree_calls.specs.declared.call.Call.TheVariants.{Write}
use Rattle.tree_calls.specs.declared.reply.Refusal.{Refusal}
use Rattle.tree_calls.specs.declared.reply.Reply.{Reply}
use Rattle.tree_laws.specs.Parts.Part.{Size, Traits}
use Rattle.tree_laws.specs.Parts.{Nature}
use Rattle.tree_objects.specs.Spans.{span_between}

-- a label, of locks or else of opens, goes out of use, and its token is in use no more where no other label is for it
abbrev pub still_used : Tables → Bool → List ℕ → UseOf → Bool
still_used m lock label used = has_id (after_drop m.uses lock label).labels used.token.id

pub record EndsUse (m : Tables) (lock : Bool) (label : List ℕ) (used : UseOf) (new : Tables) : Type 0 where
  pub shown : seen new.cache
      ≡ (if still_used m lock label used then seen m.cache else after_set_use (seen m.cache) used.token.id false)
  pub tables : new ≡ record m { uses = after_drop m.uses lock label; cache = new.cache }

-- bytes of a file are written
pub record WritesBytes (m : Tables) (fid : Fid) (from to : ℕ) (bytes : List ℕ) (new : Tables) : Type 0 where
  pub shown : seen new.cache ≡ (if nat_lt (content m.cache fid Size) to
      then after_length (after_write (seen m.cache) fid from bytes) fid to
      else after_write (seen m.cache) fid from bytes)
  pub dirty : Adds m.dirty fid (span_between from to) new.dirty
  pub tables : new ≡ record m { cache = new.cache; dirty = new.dirty }

-- a label is taken in use, for the exact token of a file
pub record TakesUse (m : Tables) (fid : Fid) (kind : Kind) (label : List ℕ) (begun : Labelled) (new : Tables) : Type 0
  where
    pub label_is : begun.label ≡ label
    pub is_held : In begun.token (held_of m)
    pub file : begun.token.fid ≡ fid
    pub exact : begun.token.kind ≡ kind
    pub shown : seen new.cache ≡ after_set_use (seen m.cache) begun.token.id true
    pub tables : new ≡ record m { cache = new.cache; uses = after_take m.uses label begun.token }

pub record BeginsUse (m : Tables) (draft : Draft) (fid : Fid) (kind : Kind) (label : List ℕ) (new : Tables)
    (after : Draft) : Type 0 where
  pub begun : Labelled
  pub takes : TakesUse m fid kind label begun new
  pub draft_is : after ≡ record draft { begun = draft.begun ++ begun ∷ [] }

-- whether two tokens are for the same use of a file
abbrev pub same_use : Kind → Kind → Bool
same_use (Lock writing span) (Lock other its) = beq writing other && same_span span its
same_use (Opening kind) (Opening other) = same_opening kind other
same_use _ _ = false

-- a verdict by which nothing of the host's own changes
abbrev pub changes_nothing : Result Verdict Refusal → Bool
changes_nothing (Ok (Writes fid from to)) = false
changes_nothing (Ok (Uses fid kind)) = false
changes_nothing (Ok Frees) = false
changes_nothing _ = true

-- the label that a call frees goes out of use
pub record FreesUse (call : Call) (m new : Tables) : Type 0 where
  pub lock : Bool
  pub label : List ℕ
  pub call_is : call ≡ ending_of lock label
  pub used : UseOf
  pub in_use : use_of m.uses lock label ≡ Some used
  pub ends : EndsUse m lock label used new

-- what an answered call changes of the host's own
pub data ChangesOwn (call : Call) (m : Tables) (draft : Draft) (new : Tables) (after : Draft)
    : Result Verdict Refusal → Type 0
  where
    WritesIt : (fid : Fid) (from to : ℕ) → WritesBytes m fid from to (bytes_of call) new
        → after ≡ record draft { wrote = Some fid } → ChangesOwn call m draft new after (Ok (Writes fid from to))
    UsesIt : (fid : Fid) (kind : Kind) (label : List ℕ) → taken_label call ≡ Some (is_lock kind, label)
        → BeginsUse m draft fid kind label new after → ChangesOwn call m draft new after (Ok (Uses fid kind))
    FreesIt : FreesUse call m new → after ≡ draft → ChangesOwn call m draft new after (Ok Frees)
    KeepsAll : (verdict : Result Verdict Refusal) → changes_nothing verdict ≡ true → new ≡ m → after ≡ draft
        → ChangesOwn call m draft new after verdict

-- a call is answered
pub record Answered (k : ℕ) (call : Call) (first : Bool) (verdict : Result Verdict Refusal)
    (m : Tables) (draft : Draft) (new : Tables) (after : Draft) : Type 0 where
  pub reply : Reply
  pub right : reply_now (meant m call verdict) ≡ Some reply
  pub own : Draft
  pub changes : ChangesOwn call m draft new own verdict
  pub draft_is : after ≡ record own {
    answers = record { host = m.host; k = k; call = call; reply = reply; first = first } ∷ [];
  }

abbrev pub needs_in : Last → List Need
needs_in Nothing = []
needs_in (One need) = need ∷ []
needs_in (Two first second) = first ∷ second ∷ []

-- what an answered call used at the end of its path, beside the status
abbrev pub last_needs : Tables → Result Verdict Refusal → List Need
last_needs m (Ok (Reads fid span)) = if nat_lt span.from span.to
    then record { fid = fid; kind = Bytes false (rounded span.from span.to) } ∷ [] else []
last_needs m (Ok (Lists fid)) = whole_need fid ∷ []
last_needs m (Ok (Writes fid from to)) = write_needs fid from to (content m.cache fid Size)
last_needs m (Ok (Uses fid kind)) = record { fid = fid; kind = kind } ∷ []
last_needs m _ = []

-- a Write of a clone's file looks at the root alone
abbrev pub is_read_only : Option Nature → Bool
is_read_only None = false
is_read_only (Some nature) = nature.read_only

abbrev pub way_of : Tables → Call → Fid → List (List ℕ) → List (List ℕ)
way_of m (Write place from bytes) root path = if is_read_only (content m.cache root Traits) then [] else path
way_of m _ root path = path

pub record MarksUsed (m : Tables) (call : Call) (root : Fid) (path : List (List ℕ)) (verdict : Result Verdict Refusal)
    (new : Tables) : Type 0 where
  pub shown : seen new.cache ≡ used_all
      (marks_of (content m.cache) m.user (last_needs m verdict) (way_of m call root path) root) (seen m.cache)
  pub tables : new ≡ record m { cache = new.cache }
