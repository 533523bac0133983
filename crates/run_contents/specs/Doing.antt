-- What a server's doings do to the parts of objects: the deeds of a step, in the journal's words.
use Rattle.std.specs.Option.{option_map_or}
use Rattle.std.specs.Prelude.{Bool, List, None, Option, Some, [], if◌then◌else◌, is_none, is_some, map, nat_lt, ℕ}
use Rattle.std.specs.Prelude.{◌&&◌, ◌++◌, ◌==◌, ◌||◌, ◌∷◌}
use Rattle.base_types.specs.Ids.{same_fid}
use Rattle.base_types.specs.declared.ids.Fid.{Fid}
use Rattle.base_types.specs.declared.ids.HostId.{HostId}
use Rattle.base_types.specs.declared.ids.Node.{Node}
use Rattle.base_types.specs.declared.ids.Node.TheVariants.{Host, Server}
use Rattle.base_types.specs.declared.ids.ServerId.{ServerId}
use Rattle.tree_calls.specs.Rosters.{user_of}
use Rattle.tree_calls.specs.declared.call.Call.{Call}
use Rattle.tree_calls.specs.declared.part.Piece.{Piece}
use Rattle.need_host.specs.Looks.{kept_view}
use Rattle.need_host.specs.Shows.{needs_update}
use Rattle.tree_answers.specs.declared.tree.Tree.{Tree}
use Rattle.need_server.specs.Wants.{want}
use Rattle.token_types.specs.declared.token.Need.{Need}
use Rattle.tree_laws.specs.Parts.{Part, Seen}
use Rattle.tree_laws.specs.Parts.Part.{ByteAt, Entries, Size, Traits}
use Rattle.run_parts.specs.Doings.{doings_cause}
use Rattle.run_rules.specs.Doings.{Doing, admitting, doings_of, sending}
use Rattle.run_rules.specs.Doings.Doing.{MakesWant, Moves, Reserves, WritesDown}
use Rattle.run_rules.specs.Kept.{filesets_after, filesets_kept, filesets_through, is_refusal, length_given, pieces_in}
use Rattle.run_rules.specs.ServerDecides.{by_cause, decisions}
use Rattle.run_rules.specs.Steps.{steps_of_server}
use Rattle.run_rules.specs.Views.{byte_of}
use Rattle.run_rules.specs.declared.applied.Applied.TheVariants.{Done as IsDone, IsDown, Moves as IsMoved, Stored}
use Rattle.run_rules.specs.declared.applied.Applied.TheVariants.{Wants as IsWanted}
use Rattle.run_parts.specs.Cells.{Does}
use Rattle.run_parts.specs.Cells.Does.{Loses, Nothing, Sets, Stores}
use Rattle.run_parts.specs.Contents.{site}
use Rattle.run_parts.specs.Deeds.{Deed}
use Rattle.run_rules.specs.declared.applied.Applied.{Applied}
use Rattle.run_rules.specs.declared.applied.Written.{Written}
use Rattle.run_rules.specs.declared.step.Cause.{Cause}
use Rattle.run_rules.specs.Doings.{shipping}
use Rattle.run_rules.specs.declared.step.Step.{Step}

-- what a doing does to each part
abbrev pub Effect : Type 0
Effect = Fid → (part : Part) → Does (Seen part)

abbrev pub does_nothing : Effect
does_nothing fid part = Nothing

-- a part that has another value now; traits and entries, which are compared by nobody, where the object is touched
abbrev pub sets_part : Bool → (part : Part) → Seen part → Seen part → Does (Seen part)
sets_part touched (ByteAt at) old new = if old == new then Nothing else Sets new
sets_part touched Size old new = if old == new then Nothing else Sets new
sets_part touched Traits old new = if touched then Sets new else Nothing
sets_part touched Entries old new = if touched then Sets new else Nothing

-- a call of a host wants this on what is kept
abbrev pub wanted_by : Tree → HostId → Call → List Need
wanted_by tree host call = option_map_or (λ user. want tree user call) (user_of tree.roster host) []

-- the object comes
abbrev pub comes : Tree → Tree → Fid → Bool
comes old new fid = is_none (kept_view old fid Traits) && is_some (kept_view new fid Traits)

-- a Change touches an object under a want for updating its part, or where it comes
abbrev pub changes : List Need → Tree → Tree → Effect
changes needs old new fid part =
    sets_part (needs_update needs fid part || comes old new fid) part (kept_view old fid part) (kept_view new fid part)

-- a server's Changes change its own files
abbrev pub at_home : ServerId → Effect → Effect
at_home v doing fid part = if (site fid).0 == v.0 then doing fid part else Nothing

abbrev pub writes : Cause → Tree → Written → Effect
writes cause tree written fid part =
    if is_refusal written.answer.reply then Nothing
    else changes (wanted_by tree written.answer.host written.answer.call) tree
    (filesets_after cause tree (IsDone written))
    fid part

-- what a give-back has becomes kept: bytes below the size that is left, and the size
abbrev pub stores_some : {X : Type 0} → Option X → Does X
stores_some None = Nothing
stores_some (Some value) = Stores value

abbrev pub stores_part : List Piece → Option ℕ → ℕ → (part : Part) → Does (Seen part)
stores_part pieces given size (ByteAt at) = if nat_lt at size then stores_some (byte_of pieces at) else Nothing
stores_part pieces given size Size = stores_some given
stores_part pieces given size Traits = Nothing
stores_part pieces given size Entries = Nothing

-- what a step applies by its cause stands first
abbrev pub does_first : Cause → Tree → List Applied → Effect
does_first cause tree (Stored host file spans given ∷ rest) fid part =
    if same_fid file fid
    then stores_part (pieces_in cause) given (length_given (kept_view tree file Size) given) part
    else Nothing
does_first cause tree (IsDown host ∷ rest) fid part = Loses host
does_first cause tree _ fid part = Nothing

-- doings with what they do
abbrev pub with_doing : Effect → List Doing → List Deed
with_doing doing acts = map (λ act. let deed : Deed = record { act = act; does = doing } in deed) acts

-- wants are made, Changes written down and filesets let go, one after the other
abbrev pub decided : ServerId → Cause → Tree → List Applied → List Deed
decided v cause tree [] = []
decided v cause tree (IsWanted wanted ∷ rest) =
    record { act = MakesWant wanted; does = does_nothing } ∷ decided v cause tree rest
decided v cause tree (IsDone written ∷ rest) =
    record { act = WritesDown written; does = at_home v (writes cause tree written) }
    ∷ decided v cause (filesets_after cause tree (IsDone written)) rest
decided v cause tree (IsMoved move ∷ rest) =
    record { act = Moves move; does = does_nothing } ∷ decided v cause tree rest
decided v cause tree (_ ∷ rest) = decided v cause tree rest

-- all deeds of a server's step, the oldest first: `tree` is what it keeps before the step, `past` its doings
abbrev pub deeds_of : ServerId → Tree → List Doing → Step → List Deed
deeds_of v tree past s =
    with_doing (does_first s.cause tree (by_cause s.applied)) (doings_cause s.cause past [])
    ++ (decided v s.cause (filesets_through s.cause (by_cause s.applied) tree) (decisions s.applied)
    ++ with_doing does_nothing (admitting s.admitted ++ (sending s.sent
    ++ (shipping s.shipped ++ (Reserves s.reserved ∷ [])))))

abbrev pub deeds_at : Tree → (ServerId → ℕ) → Node → List Step → Step → List Deed
deeds_at start firsts (Host host) past s = []
deeds_at start firsts (Server v) past s =
    deeds_of v (filesets_kept start v (steps_of_server v past)) (doings_of (firsts v) v past) s
