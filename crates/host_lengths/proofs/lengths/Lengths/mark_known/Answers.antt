use Rattle.std.proofs.Common.{◌≡◌, List, None, Some, ap, map, ℕ, subst, sym, ◌∙◌}
use Rattle.std.specs.List.{IsDistinct}
use Rattle.std.specs.Map.{keys_of, lookup, set_value, values_of}
use Rattle.base_types.specs.declared.ids.FilesetId.{FilesetId}
use Rattle.host_lengths.specs.Giving.{known_by}
use Rattle.host_lengths.specs.Lengths.{AreNoted, FileKey, GiveKey, file_of, keyed, same_file}
use Rattle.host_lengths.specs.declared.given.Given.{Given}
use Rattle.host_lengths.proofs.Keyed.{kept_absent, rekeyed, set_keyed}
use Rattle.host_lengths.proofs.Noted.{its_fid, its_key, lengths_are, none_marked, noted_marked, others_kept}
use Rattle.host_lengths.proofs.lengths.Lengths.mark_known.Goals as goal

module _ (fileset : FilesetId) (number : ℕ) (old : List (FileKey × Given)) (files : List (GiveKey × FileKey))
    (keys : old ≡ keyed (values_of old)) (noted : AreNoted (values_of old) files) (key : FileKey)
    (at : file_of files (its_key fileset number) ≡ Some key) where
  same : lookup (same_file key) old ≡ None → map (known_by fileset number) (values_of old) ≡ values_of old
  same none =
      kept_absent (known_by fileset number) (its_fid fileset number) key (values_of old)
      (others_kept fileset number files key at (values_of old) noted) (ap (lookup (same_file key)) (sym keys) ∙ none)

  marked : (h w : Given) (new : List (FileKey × Given)) → lookup (same_file key) old ≡ Some h →
      w ≡ known_by fileset number h → IsDistinct same_file (keys_of old) → new ≡ set_value (same_file key) old w →
      new ≡ keyed (map (known_by fileset number) (values_of old))
  marked h w new there is distinct made =
      made ∙ ap (set_value (same_file key) old) is
      ∙ ap (λ es. set_value (same_file key) es (known_by fileset number h)) keys
      ∙ set_keyed (known_by fileset number) (its_fid fileset number) key (values_of old) h
      (subst (λ (es : List (FileKey × Given)). IsDistinct same_file (keys_of es)) keys distinct)
      (others_kept fileset number files key at (values_of old) noted) (ap (lookup (same_file key)) (sym keys) ∙ there)

pub returns-in_default : goal.returns-in_default
returns-in_default c =
    sym (none_marked c.args.fileset c.args.number c.self.inside.files.entries (sym c.in_default.ensures.value)
    (values_of c.self.inside.by_file.entries) c.self.invariant.noted)
    ∙ ap (map (known_by c.args.fileset c.args.number)) c.self.view_is

pub invariant_of-self-in_default-get_mut : goal.invariant_of-self-in_default-get_mut
invariant_of-self-in_default-get_mut c =
    let old = c.self.inside.by_file.entries in
    let files = c.self.inside.files.entries in
    let new = c.remove.new.self.entries in
    let e : c.get_mut.follows.lender-at-none.entries ≡ old = λ i. (c.get_mut.follows.holds-at-none i).entries in
    lengths_are c.get_mut.follows.lender-at-none.entries (values_of old) new (e ∙ c.self.invariant.keys)
    (subst (λ gs. AreNoted gs new)
    (same c.args.fileset c.args.number old files c.self.invariant.keys c.self.invariant.noted c.in-Some.key
    (sym c.in-Some.ensures.value) (sym c.in_default-get_mut.ensures.value))
    (noted_marked c.args.fileset c.args.number files new c.in-Some.ensures.updates.0 (values_of old)
    c.self.invariant.noted))

pub returns-in_default-get_mut : goal.returns-in_default-get_mut
returns-in_default-get_mut c =
    let old = c.self.inside.by_file.entries in
    let e : c.get_mut.follows.lender-at-none.entries ≡ old = λ i. (c.get_mut.follows.holds-at-none i).entries in
    ap values_of e
    ∙ sym (same c.args.fileset c.args.number old c.self.inside.files.entries c.self.invariant.keys
    c.self.invariant.noted c.in-Some.key (sym c.in-Some.ensures.value) (sym c.in_default-get_mut.ensures.value))
    ∙ ap (map (known_by c.args.fileset c.args.number)) c.self.view_is

pub invariant_of-self-2 : goal.invariant_of-self-2
invariant_of-self-2 c =
    let old = c.self.inside.by_file.entries in
    let files = c.self.inside.files.entries in
    let w = c.known_by.result in
    lengths_are (c.get_mut.follows.lender w).entries (map (known_by c.args.fileset c.args.number) (values_of old))
    c.remove.new.self.entries
    (marked c.args.fileset c.args.number old files c.self.invariant.keys c.self.invariant.noted c.in-Some.key
    (sym c.in-Some.ensures.value) c.in-Some-get_mut.given.now w (c.get_mut.follows.lender w).entries
    (sym c.in-Some-get_mut.ensures.value) c.known_by.ensures c.get_mut.ensures.unique (c.get_mut.follows.holds w).0)
    (noted_marked c.args.fileset c.args.number files c.remove.new.self.entries c.in-Some.ensures.updates.0
    (values_of old) c.self.invariant.noted)

pub returns : goal.returns
returns c =
    let old = c.self.inside.by_file.entries in
    let w = c.known_by.result in
    (rekeyed (c.get_mut.follows.lender w).entries (map (known_by c.args.fileset c.args.number) (values_of old))
    (marked c.args.fileset c.args.number old c.self.inside.files.entries c.self.invariant.keys c.self.invariant.noted
    c.in-Some.key (sym c.in-Some.ensures.value) c.in-Some-get_mut.given.now w (c.get_mut.follows.lender w).entries
    (sym c.in-Some-get_mut.ensures.value) c.known_by.ensures c.get_mut.ensures.unique
    (c.get_mut.follows.holds w).0)).1 ∙ ap (map (known_by c.args.fileset c.args.number)) c.self.view_is
