use Rattle.std.proofs.Common.{◌≡◌, ℕ, List, Option, Some, None, sym, ◌∙◌}
use Rattle.std.specs.Prelude.{◌&&◌, false}
use Rattle.std.specs.Option.{option_map_or}
use Rattle.base_types.specs.declared.ids.Fid.{Fid}
use Rattle.base_types.specs.declared.ids.HostId.{HostId}
use Rattle.tree_calls.specs.declared.part.Piece.{Piece}
use Rattle.tree_filesets.specs.Laws.{is_file_at}
use Rattle.store_acts.specs.declared.act.Act.{Act}
use Rattle.store_acts.specs.declared.act.Act.TheVariants.{Give}
use Rattle.store_state.specs.State.{held_at, is_of, is_writable, slot_so}
use Rattle.store_state.specs.declared.state.Holding.{Holding}
use Rattle.store_state.specs.declared.state.StoreState.{StoreState}
use Rattle.disk_acts.specs.Touched.{gives}
use Rattle.disk_acts.proofs.touched.gives.Goals as goal

gives_of : (state : StoreState) (act : Act) (host : HostId) (number : ℕ) (fid : Fid) (pieces : List Piece) (given : Option ℕ) (held : Option Holding) → act ≡ Give host number fid pieces given
    → held ≡ held_at state.slots (slot_so (is_of fid.fileset) state.slots) → gives state act ≡ option_map_or (λ holding. is_writable holding.stay && is_file_at holding.fileset fid) held false
gives_of state act host number fid pieces given held is there =
    (λ i. gives state (is i)) ∙ (λ i. option_map_or (λ holding. is_writable holding.stay && is_file_at holding.fileset fid) (sym there i) false)

pub returns-then-is_writable : goal.returns-then-is_writable
returns-then-is_writable c =
    c.is_file_at.ensures ∙ (λ i. c.if-is_writable.ensures i && is_file_at c.in-Some.holding.now.fileset c.in-Give.fid)
    ∙ sym (gives_of c.args.state.now c.args.act.now c.in-Give.host c.in-Give.number c.in-Give.fid c.in-Give.pieces c.in-Give.length (Some c.in-Some.holding.now) c.in-Give.is c.in-Some.ensures)

pub returns-else-is_writable : goal.returns-else-is_writable
returns-else-is_writable c =
    c.if-is_writable.false ∙ (λ i. c.if-is_writable.ensures i && is_file_at c.in-Some.holding.now.fileset c.in-Give.fid)
    ∙ sym (gives_of c.args.state.now c.args.act.now c.in-Give.host c.in-Give.number c.in-Give.fid c.in-Give.pieces c.in-Give.length (Some c.in-Some.holding.now) c.in-Give.is c.in-Some.ensures)

pub returns-in-None : goal.returns-in-None
returns-in-None c = sym (gives_of c.args.state.now c.args.act.now c.in-Give.host c.in-Give.number c.in-Give.fid c.in-Give.pieces c.in-Give.length None c.in-Give.is c.in-None.ensures)
