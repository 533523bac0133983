-- Looks whose needs hang on no byte that is seen.
use Rattle.base_types.specs.declared.ids.Fid.{Fid}
use Rattle.base_types.specs.declared.ids.HostId.{HostId}
use Rattle.base_types.specs.declared.user.User.{User}
use Rattle.need_host.specs.Calls.{Own, call_look}
use Rattle.need_host.specs.Laws.{AgreeUnder}
use Rattle.need_host.specs.Looks.{IsFirstLack, Look, View, needs_of}
use Rattle.need_host.specs.Looks.Look.{Ends, Looks, Takes}
use Rattle.std.specs.Prelude.{List, Option, Some, false, true, ℕ, ◌≡◌}
use Rattle.token_types.specs.Covers.{Covers}
use Rattle.token_types.specs.declared.token.Kind.TheVariants.{Status}
use Rattle.token_types.specs.declared.token.Need.{Need}
use Rattle.token_types.specs.declared.token.Token.{Token}
use Rattle.tree_calls.specs.declared.call.Call.{Call}
use Rattle.tree_calls.specs.declared.part.DirEntry.{DirEntry}
use Rattle.tree_laws.specs.Parts.{Nature}
use Rattle.tree_laws.specs.Parts.Part.{ByteAt, Entries, Size, Traits}

-- no byte is looked at, and no token taken
abbrev pub NoBytes : {R : Type 0} → Look R → Type 0
NoBytes (Ends result) = Unit {0}
NoBytes (Takes need next) = ⊥
NoBytes (Looks fid (ByteAt at) next) = ⊥
NoBytes (Looks fid Size next) = (x : ℕ) → NoBytes (next x)
NoBytes (Looks fid Traits next) = (x : Option Nature) → NoBytes (next x)
NoBytes (Looks fid Entries next) = (x : List DirEntry) → NoBytes (next x)

-- once a byte was looked at or a token taken, what is needed is the same whatever is seen
abbrev pub IsPlain : {R : Type 0} → Look R → Type 0
IsPlain (Ends result) = Unit {0}
IsPlain (Takes need next) = (a b : View) → needs_of a next ≡ needs_of b next
IsPlain (Looks fid (ByteAt at) next) = (x y : ℕ) (a b : View) → needs_of a (next x) ≡ needs_of b (next y)
IsPlain (Looks fid Size next) = (x : ℕ) → IsPlain (next x)
IsPlain (Looks fid Traits next) = (x : Option Nature) → IsPlain (next x)
IsPlain (Looks fid Entries next) = (x : List DirEntry) → IsPlain (next x)

-- each call's look is so
abbrev pub CallsArePlain : Type 0
CallsArePlain = (own : Own) (host : HostId) (user : User) (call : Call) → IsPlain (call_look own host user call)

-- this is a directory, as seen
abbrev pub IsDirIn : View → Fid → Type 0
IsDirIn view fid = (nature : Nature) × (view fid Traits ≡ Some nature) × (nature.dir ≡ true)

-- entries are looked at only in directories, before a byte is looked at or a token taken
abbrev pub EntersDirs : {R : Type 0} → View → Look R → Type 0
EntersDirs view (Ends result) = Unit {0}
EntersDirs view (Takes need next) = Unit {0}
EntersDirs view (Looks fid (ByteAt at) next) = Unit {0}
EntersDirs view (Looks fid Size next) = EntersDirs view (next (view fid Size))
EntersDirs view (Looks fid Traits next) = EntersDirs view (next (view fid Traits))
EntersDirs view (Looks fid Entries next) = IsDirIn view fid × EntersDirs view (next (view fid Entries))

-- each call does so
abbrev pub CallsEnterDirs : Type 0
CallsEnterDirs = (view : View) (own : Own) (host : HostId) (user : User) (call : Call)
    → EntersDirs view (call_look own host user call)

-- the object of a need isn't a directory, and its status is held
abbrev pub IsOfFile : List Token → View → Need → Type 0
IsOfFile held view need = Covers held (record { fid = need.fid; kind = Status false }) × (IsDirIn view need.fid → ⊥)

-- where the first lack is of a file whose status is held, what a call needs is the same on views that agree
abbrev pub PlainNeedsAlike : Type 0
PlainNeedsAlike = (held : List Token) (a b : View) → AgreeUnder held a b → (own : Own) (host : HostId) (user : User)
    (call : Call)
    → ((need : Need) → IsFirstLack held (needs_of a (call_look own host user call)) need → IsOfFile held a need)
    → needs_of a (call_look own host user call) ≡ needs_of b (call_look own host user call)
