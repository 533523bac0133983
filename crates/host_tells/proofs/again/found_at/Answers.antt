use Rattle.std.proofs.Common.{List, Ok, ap, subst, sym, ◌∙◌, ◌≡◌, ℕ}
use Rattle.host_tables.specs.Tables.{home_of}
use Rattle.host_walk.proofs.Steps.{right_found, size_found}
use Rattle.host_walk.specs.Trying.{Finds}
use Rattle.host_walk.specs.Views.{held_by, nature_told, view_of}
use Rattle.need_host.specs.Looks.{outcome}
use Rattle.need_host.specs.Walks.{permitted_look, walk_look}
use Rattle.tree_filesets.specs.Rights.{read_right}
use Rattle.host_tells.proofs.again.found_at.Goals as goal

pub returns : goal.returns
returns c =
    let m = c.args.tables.now in
    let place = c.args.place.now in
    let kept = m.cache in
    let root = c.root_of-root.result in
    let fid = c.in-Ok.fid in
    let status = c.in-Ok.status.now in record {
      id = c.in_ok-fileset.fileset;
      entered = ap (λ homes. home_of homes place.server place.fileset) (sym c.as_slice.ensures)
          ∙ sym c.in_ok-fileset.ensures;
      root = c.root_of-root.ensures;
      nature = nature_told status;
      found = subst (λ (path : List (List ℕ)). Finds (held_by kept) (view_of kept)
          (permitted_look m.user root path read_right) (fid, nature_told status)) c.as_slice-2.ensures
          (right_found (held_by kept) (view_of kept) m.user root c.as_slice-2.result.now read_right fid
          (nature_told status) c.in-Ok.ensures.tried c.in-Ok-permitted.ensures);
      walked = subst (λ (path : List (List ℕ)). outcome (view_of kept) (walk_look m.user root path) ≡ Ok fid)
          c.as_slice-2.ensures c.in-Ok.ensures.walked;
      status = c.in-Ok.ensures.covered;
      size = size_found kept fid status c.in-Ok.ensures.seen;
    }
