-- Of a host and a fileset one Change is the last that was answered.
use Rattle.std.proofs.Common.{Option, inl, inr, sym, ◌∙◌, ap}
use Rattle.base_types.specs.declared.ids.HostId.{HostId}
use Rattle.message_types.specs.declared.telling.Done.{Done as DoneOf}
use Rattle.run_rules.specs.declared.applied.Written.{Written}
use Rattle.server_tables.specs.Answers.{AreLastChanges, renewed}
use Rattle.server_tables.specs.declared.tables.LastChange.{LastChange}
use Rattle.server_tables.specs.declared.tables.Tables.{Tables}
use Rattle.server_tables.proofs.Updated.{renewed_is}

pub single_renewed : (x : Tables) (host : HostId) (done : DoneOf) (written : Option Written)
    → AreLastChanges x.changes → AreLastChanges (renewed x host done written)
single_renewed x host done written s l m i j h f =
    let r = renewed_is x host done written in
    elim (r.of l i) [
      | inl a ↦ elim (r.of m j) [
        | inl b ↦ a ∙ sym b
        | inr b ↦ absurd (b.1 (sym h ∙ ap (λ (c : LastChange). c.host) a)
            (sym f ∙ ap (λ (c : LastChange). c.fileset) a))
      ]
      | inr a ↦ elim (r.of m j) [
        | inl b ↦ absurd (a.1 (h ∙ ap (λ (c : LastChange). c.host) b) (f ∙ ap (λ (c : LastChange). c.fileset) b))
        | inr b ↦ s l m a.0 b.0 h f
      ]
    ]
