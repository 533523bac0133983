-- A call at a server leaves what isn't there.
use Rattle.std.proofs.Common.{Bool, List, Option, Some, ap, false, not, refl, subst, sym, true, ◌∙◌, ◌∷◌, ◌≡◌}
use Rattle.std.proofs.lemmas.Bool.{false≢true}
use Rattle.std.specs.List.{find}
use Rattle.std.specs.Prelude.{[], filter, if◌then◌else◌, ◌&&◌, ◌==◌, ◌||◌}
use Rattle.base_types.specs.declared.ids.FilesetId.{FilesetId}
use Rattle.base_types.specs.declared.ids.ServerId.{ServerId}
use Rattle.tree_filesets.specs.declared.fileset.Fileset.{Fileset}
use Rattle.tree_answers.specs.Answers.{answer_to}
use Rattle.tree_answers.specs.Finding.{has_id}
use Rattle.tree_answers.specs.Losses.{is_at}
use Rattle.tree_answers.specs.declared.tree.Away.{Away}
use Rattle.need_laws.specs.Keeps.{CallsLeaveOthers}
use Rattle.need_laws.proofs.Elsewhere.{calls_stay_at_their_server}
use Rattle.need_laws.specs.Known.{is_known, is_record_of, records_of}
use Rattle.tree_laws.specs.Parts.{cell_in}

-- a fileset that isn't at the server is found among those that aren't
pub found_apart : (id : FilesetId) (server : ServerId) (xs : List Fileset) → is_at xs server id ≡ false
    → find (has_id id) (filter (λ fileset. not (is_known [] server fileset)) xs) ≡ find (has_id id) xs
found_apart id server [] e = refl
found_apart id server (x ∷ xs) e =
    go (has_id id x) (x.server.0 == server.0) refl refl e (λ k. found_apart id server xs k)
  where
    go : (a b : Bool) → has_id id x ≡ a → (x.server.0 == server.0) ≡ b → ((a && b) || is_at xs server id) ≡ false
        → (is_at xs server id ≡ false
        → find (has_id id) (filter (λ fileset. not (is_known [] server fileset)) xs) ≡ find (has_id id) xs)
        → find (has_id id) (if not (b || false) then x ∷ filter (λ fileset. not (is_known [] server fileset)) xs
        else filter (λ fileset. not (is_known [] server fileset)) xs)
        ≡ (if a then Some x else find (has_id id) xs)
    go true true p q e rest = absurd (false≢true (sym e))
    go true false p q e rest =
        ap (λ b. if b then Some x else find (has_id id) (filter (λ fileset. not (is_known [] server fileset)) xs)) p
    go false true p q e rest = rest e
    go false false p q e rest =
        ap (λ b. if b then Some x else find (has_id id) (filter (λ fileset. not (is_known [] server fileset)) xs)) p
        ∙ rest e

pub calls_leave_others : CallsLeaveOthers
calls_leave_others tree server host call fid part none at before after =
    let so = calls_stay_at_their_server tree server host call at in
    let few : records_of server tree ≡ [] = ap (λ xs. filter (is_record_of server) xs) none in
    let new = (answer_to tree host call).tree in
    let same : filter (λ fileset. not (is_known [] server fileset)) new.filesets
    ≡ filter (λ fileset. not (is_known [] server fileset)) tree.filesets =
    subst (λ (records : List Away). filter (λ fileset. not (is_known records server fileset)) new.filesets
    ≡ filter (λ fileset. not (is_known records server fileset)) tree.filesets) few so.filesets in
    ap (λ (o : Option Fileset). cell_in o fid part)
    (sym (found_apart fid.fileset server new.filesets after)
    ∙ (ap (λ xs. find (has_id fid.fileset) xs) same ∙ found_apart fid.fileset server tree.filesets before))
