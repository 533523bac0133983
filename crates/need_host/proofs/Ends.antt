-- Where walks end over a tree.
use Rattle.std.proofs.Common.{◌≡◌, sym, ap, ◌∙◌}
use Rattle.base_types.specs.declared.ids.Fid.{Fid}
use Rattle.tree_answers.specs.Finding.{has_id}
use Rattle.tree_laws.specs.Losses.{use_of}
use Rattle.tree_laws.proofs.Steps.{formed_found}
use Rattle.need_host.specs.Looks.{outcome, tree_view}
use Rattle.need_host.specs.Walks.{root_of, target_look, file_look, permitted_look, use_look}
use Rattle.need_host.specs.Calls.{write_target_look}
use Rattle.need_host.specs.Laws.{AllWalksEnd}
use Rattle.need_host.proofs.Found.{tree_shows}
use Rattle.need_host.proofs.Rows.{write_target_seen}
use Rattle.need_host.proofs.Walking.{target_seen, file_seen, permitted_seen, use_seen}

pub all_walks_end : AllWalksEnd
all_walks_end tree fileset w found =
    let formed = formed_found (has_id fileset.id) tree.filesets fileset w.filesets found in
    let shows = tree_shows tree fileset found in
    let view = tree_view tree in
    let root : root_of fileset.id ≡ use_of fileset 1 = ap (λ n. let fid : Fid = record { fileset = fileset.id; anode = 1; unique = n } in fid) (sym formed.first) in
    record {
      targets = λ user path. ap (λ fid. outcome view (target_look user fid path)) root ∙ target_seen view fileset formed shows user path;
      files = λ user path. ap (λ fid. outcome view (file_look user fid path)) root ∙ file_seen view fileset formed shows user path;
      permitted = λ user path right. ap (λ fid. outcome view (permitted_look user fid path right)) root ∙ permitted_seen view fileset formed shows user path right;
      uses = λ user path changing right. ap (λ fid. outcome view (use_look user fid path changing right)) root ∙ use_seen view fileset formed shows user path changing right;
      writes = λ user path end. ap (λ fid. outcome view (write_target_look user fid path end)) root ∙ write_target_seen view fileset formed shows user path end;
    }
