-- A file in use is the last that a Remove is refused for.
use Rattle.std.proofs.Common.{◌≡◌, ℕ, List, Option, Some, None, Ok, sym, ap, ◌∙◌, rules}
use Rattle.base_types.specs.declared.ids.Fid.{Fid}
use Rattle.tree_calls.specs.declared.part.DirEntry.{DirEntry}
use Rattle.tree_calls.specs.declared.reply.Refusal.TheVariants.{InUse, NotEmpty, ReadOnly}
use Rattle.tree_objects.specs.declared.content.Object.{Object}
use Rattle.tree_filesets.specs.Checks.{unless, split_path}
use Rattle.tree_filesets.specs.Removal.{has_entries, fid_of, remove_target}
use Rattle.tree_filesets.specs.Walk.{object_at, found_at, entry_target}
use Rattle.tree_filesets.specs.WellFormed.{entry_at}
use Rattle.tree_filesets.proofs.Targets.{ok_is, entry_target_ok}
use Rattle.tree_laws.specs.Losses.{use_of}
use Rattle.tree_laws.proofs.Steps.{then_same, then_then, unless_then}
use Rattle.need_server.specs.Laws.{UsesRefuseLast}

-- a file in use
found_use : (anode : ℕ) (o : Option Object) (found : ℕ × Object) → found_at anode o ≡ Ok found → anode ≡ found.0
found_use anode None found h = absurd (search (rules, h))
found_use anode (Some object) found h = ap (λ f. f.0) (ok_is (anode, object) found h)

pub uses_refuse_last : UsesRefuseLast
unfolding remove_target
uses_refuse_last fileset in_use user path formed =
    let ends = λ (found : ℕ × List ℕ × ℕ). unless (in_use (use_of fileset found.2)) InUse (Ok found) in
    sym (unless_then fileset.read_only ReadOnly _ ends
    ∙ ap (λ next. unless fileset.read_only ReadOnly next) (then_then (split_path path InUse) _ ends
    ∙ then_same (split_path path InUse) _ _ (λ parts h. then_then (entry_target fileset user parts.1 parts.0) _ ends
    ∙ then_same (entry_target fileset user parts.1 parts.0) _ _ (λ at h. then_then (found_at at.1.anode (object_at fileset.anodes at.1.anode)) _ ends
    ∙ then_same (found_at at.1.anode (object_at fileset.anodes at.1.anode)) _ _ (λ there k. unless_then (has_entries there.1.content) NotEmpty (Ok (at.0, parts.0, there.0)) ends
    ∙ ap (λ fid. unless (has_entries there.1.content) NotEmpty (unless (in_use fid) InUse (Ok (at.0, parts.0, there.0)))) (same_use at.1 there.0 at.0 parts.0 (found_use at.1.anode (object_at fileset.anodes at.1.anode) there k) (entry_target_ok fileset user parts.1 parts.0 at h)))))))
  where
    same_use : (entry : DirEntry) (anode parent : ℕ) (name : List ℕ) → entry.anode ≡ anode → entry_at fileset.anodes parent name ≡ Some entry → use_of fileset anode ≡ fid_of fileset entry
    same_use entry anode parent name e there =
        ap (λ n. use_of fileset n) (sym e) ∙ ap (λ n. let fid : Fid = record { fileset = fileset.id; anode = entry.anode; unique = n } in fid) (formed.named parent name entry there).1
