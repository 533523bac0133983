-- What is unsaved is under granted tokens, while a server does one thing after the other. Deeds have the newest first.
use Rattle.std.specs.Prelude.{List, Some, [], ◌∷◌, ◌≡◌}
use Rattle.base_types.specs.declared.ids.Fid.{Fid}
use Rattle.base_types.specs.declared.ids.Node.TheVariants.{Server}
use Rattle.base_types.specs.declared.ids.ServerId.{ServerId}
use Rattle.script_lines.specs.declared.script.Script.{Script}
use Rattle.token_types.specs.declared.token.Token.{Token}
use Rattle.tree_laws.specs.Parts.{Part, Seen, Written as Unsaved}
use Rattle.run_rules.specs.Doings.{Doing, Granted, NoGrace}
use Rattle.run_rules.specs.Past.{Always}
use Rattle.run_rules.specs.Runs.{IsRun, firsts_of, past_of}
use Rattle.run_rules.specs.declared.journal.Journal.{Journal}
use Rattle.run_parts.specs.Contents.{Contents, OverUpdate, site}
use Rattle.run_parts.specs.Deeds.{Deed, acts_in}
use Rattle.run_parts.specs.Legal.{Cells, cells_after, served, tree}
use Rattle.run_contents.specs.Instance.{IsOfRun}

-- after some doings, if no grace period is on: what is unsaved of the server's files
abbrev pub GrantedAt : ServerId → List Doing → Cells → Type 0
GrantedAt v past cells =
    NoGrace past → (f : Fid) (p : Part) (u : Unsaved (Seen p)) → site f ≡ v → (cells f p).unsaved ≡ Some u
    → (t : Token) × Granted v past t × OverUpdate t f p

-- so it is before each of some deeds, and after them
abbrev pub EachGranted : ServerId → List Deed → List Deed → Cells → Type 0
EachGranted v [] before cells = GrantedAt v (acts_in before) cells
EachGranted v (d ∷ more) before cells =
    GrantedAt v (acts_in before) cells × EachGranted v more (d ∷ before) (cells_after d cells)

abbrev pub UnsavedIsGranted : Type 0
UnsavedIsGranted =
    (script : Script) (journal : Journal) (run : IsRun script journal) (c : Contents)
    → IsOfRun run.start (firsts_of journal) c
    → Always (λ past s. (v : ServerId) → s.node ≡ Server v
    → EachGranted v (c.deeds past s) (served c (firsts_of journal v) v past) (tree c past)) (past_of journal)
