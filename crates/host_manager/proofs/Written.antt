-- What a Write that is made needs: its file is seen, it fits, and the tokens cover its bytes.
use Rattle.base_types.specs.Access.{allows}
use Rattle.base_types.specs.Outcomes.{and_then, either}
use Rattle.base_types.specs.declared.ids.Fid.{Fid}
use Rattle.base_types.specs.declared.limits.TheConstants.{FILE_BYTES_MAX}
use Rattle.host_calls.proofs.Judged.{write_backed}
use Rattle.host_calls.specs.Looking.{path_look}
use Rattle.host_manager.proofs.Helped.{if_file, if_permitted, passes, refuse_or, takes_it, with_nature}
use Rattle.host_tables.specs.Tables.{content, held_of}
use Rattle.host_tables.specs.declared.tables.Tables.{Tables}
use Rattle.host_walk.proofs.Blocks.{needs_end, outcome_end}
use Rattle.host_walk.specs.Trying.{Finds}
use Rattle.need_host.proofs.Looking.{outcome_checked}
use Rattle.need_host.specs.Calls.{Verdict as Meant, fits_file, judged, write_look, written_look}
use Rattle.need_host.specs.Calls.Verdict.{Replies, Writes as WritesOf}
use Rattle.need_host.specs.Looks.{CoverAll, IsCovered, Look, View, after_check, checked, outcome, refuse_if}
use Rattle.need_host.specs.Looks.Look.{Ends}
use Rattle.need_host.specs.Walks.{file_look, nature_look, permitted_look, rights_on, target_look, walk_look}
use Rattle.need_host.specs.Walks.{writable_look}
use Rattle.std.proofs.Common.{Bool, Err, List, None, Ok, Option, Result, Some, [], ap, false, inl, length, nat_lt}
use Rattle.std.proofs.Common.{not, refl, subst, sym, true, ℕ, ◌+◌, ◌∙◌, ◌∷◌, ◌≡◌, ◌≤◌}
use Rattle.token_types.specs.Covers.{CoversBetween}
use Rattle.tree_answers.specs.Finding.{found_or}
use Rattle.tree_calls.specs.declared.call.Call.TheVariants.{Write}
use Rattle.tree_calls.specs.declared.place.Place.{Place as NamedPlace}
use Rattle.tree_calls.specs.declared.reply.Refusal.{Refusal}
use Rattle.tree_calls.specs.declared.reply.Refusal.TheVariants.{Denied, IsDir, NoEntry, ReadOnly, TooBig}
use Rattle.tree_calls.specs.declared.reply.Reply.TheVariants.{Refused as IsRefused}
use Rattle.tree_filesets.specs.Rights.{write_right}
use Rattle.tree_laws.specs.Parts.{Nature}
use Rattle.tree_laws.specs.Parts.Part.{Size, Traits}

pub record IsWritten (m : Tables) (fid : Fid) (from : ℕ) (bytes : List ℕ) : Type 0 where
  pub fits : from + length bytes ≤ FILE_BYTES_MAX
  pub covers : CoversBetween (held_of m) fid true from (from + length bytes)
  pub nature : Nature
  pub known : content m.cache fid Traits ≡ Some nature

module _ (m : Tables) (root : Fid) (path : List (List ℕ)) where
  abbrev view : View
  view = content m.cache

  -- an object to which a path leads is seen
  seen_target : (found : Fid × Nature) → outcome view (target_look m.user root path) ≡ Ok found
      → view found.0 Traits ≡ Some found.1
  seen_target found e =
      by_walk (outcome view (walk_look m.user root path))
      (sym (outcome_checked view (walk_look m.user root path) (with_nature view m.user root path)) ∙ e)
    where
      by_nature : (fid : Fid) (o : Option Nature) → view fid Traits ≡ o
          → outcome view (after_check {B = Fid × Nature} (λ nature. Ends (Ok (fid, nature))) (found_or o NoEntry))
          ≡ Ok found → view found.0 Traits ≡ Some found.1
      by_nature fid None is p = absurd (cc)
      by_nature fid (Some nature) is p =
          let q : (fid, nature) ≡ found = cc in
          subst (λ (x : Fid × Nature). view x.0 Traits ≡ Some x.1) q is

      by_walk : (r : Result Fid Refusal)
          → and_then r (λ fid. outcome view (with_nature view m.user root path fid)) ≡ Ok found
          → view found.0 Traits ≡ Some found.1
      by_walk (Ok fid) p = by_nature fid (view fid Traits) refl p
      by_walk (Err refusal) p = absurd (cc)

  seen_file : (right : ℕ) (found : Fid × Nature) → outcome view (permitted_look m.user root path right) ≡ Ok found
      → view found.0 Traits ≡ Some found.1
  seen_file right found e =
      let p = passes view (file_look m.user root path) (if_permitted view m.user root path right) (λ x. x)
      (λ (fid, nature). refuse_or view (not (allows (rights_on nature m.user) right)) (Denied right)
      (Ends (Ok (fid, nature))) (fid, nature) (inl refl)) found e in
      let q = passes view (target_look m.user root path) (if_file view m.user root path) (λ x. x)
      (λ (fid, nature). refuse_or view nature.dir IsDir (Ends (Ok (fid, nature))) (fid, nature) (inl refl)) p.0 p.1 in
      seen_target found (q.1 ∙ ap Ok (q.2 ∙ p.2))

  module _ (from : ℕ) (bytes : List ℕ) (fid : Fid) where
    abbrev end : ℕ
    end = from + length bytes

    abbrev fitting : Look (Result Fid Refusal)
    fitting = checked (permitted_look m.user root path write_right) (fits_file end)

    abbrev target_w : Look (Result Fid Refusal)
    target_w = writable_look root fitting

    abbrev write_it : Look (Result Meant Refusal)
    write_it = checked target_w (written_look from bytes)

    abbrev judge_w : Result Meant Refusal → Meant
    judge_w r = either r (λ verdict. verdict) (λ refusal. Replies (IsRefused refusal))

    -- the file to which the Write leads
    leads_to : (f : Fid) → outcome view target_w ≡ Ok f → (nature : Nature) × (view f Traits ≡ Some nature)
    leads_to f e =
        let p = passes_root e in
        let q = passes view (permitted_look m.user root path write_right) (fits_file end) (λ (x : Fid × Nature). x.0)
        (λ (g, nature). refuse_or view (nat_lt FILE_BYTES_MAX end) TooBig (Ends (Ok g)) g (inl refl)) f p in
        (q.0.1, subst (λ (g : Fid). view g Traits ≡ Some q.0.1) q.2 (seen_file write_right q.0 q.1))
      where
        passes_root : outcome view target_w ≡ Ok f → outcome view fitting ≡ Ok f
        passes_root e =
            by_root (found_or (view root Traits) NoEntry)
            (sym (outcome_checked view (nature_look root) (λ nature. refuse_if nature.read_only ReadOnly fitting)) ∙ e)
          where
            by_clone : (b : Bool) → outcome view (refuse_if b ReadOnly fitting) ≡ Ok f → outcome view fitting ≡ Ok f
            by_clone true q = absurd (cc)
            by_clone false q = q

            by_root : (r : Result Nature Refusal)
                → and_then r (λ nature. outcome view (refuse_if nature.read_only ReadOnly fitting)) ≡ Ok f
                → outcome view fitting ≡ Ok f
            by_root (Ok nature) q = by_clone nature.read_only q
            by_root (Err refusal) q = absurd (cc)

    -- what is written is of the file to which it leads
    written_at : (f : Fid) → outcome view (written_look from bytes f) ≡ Ok (WritesOf fid from bytes) → f ≡ fid
    written_at f e = by_bytes bytes e
      where
        by_size : (b : Bool) (size : ℕ) (bs cs : List ℕ)
            → outcome view (takes_it view f from (from + length bs) size b (Ok (WritesOf f from bs)))
            ≡ Ok (WritesOf fid from cs) → f ≡ fid
        by_size true size bs cs q = cc
        by_size false size bs cs q = cc

        by_bytes : (bs : List ℕ) → outcome view (written_look from bs f) ≡ Ok (WritesOf fid from bytes) → f ≡ fid
        by_bytes [] q = absurd (cc)
        by_bytes (byte ∷ rest) q =
            by_size (nat_lt (view f Size) (from + length (byte ∷ rest))) (view f Size) (byte ∷ rest) bytes q

    pub written_so : IsCovered (held_of m) view (judged write_it (λ verdict. verdict))
        → outcome view (judged write_it (λ verdict. verdict)) ≡ WritesOf fid from bytes → IsWritten m fid from bytes
    written_so covered out =
        let found : Finds (held_of m) view write_it (WritesOf fid from bytes) = record {
          covered = subst (CoverAll (held_of m)) (needs_end view judge_w write_it) covered;
          ends = ends;
        } in
        let b = write_backed view (held_of m) m.user root path from bytes fid found in
        let t = by_target (outcome view target_w) refl
        (sym (outcome_checked view target_w (written_look from bytes)) ∙ ends) in
        record { fits = b.0; covers = b.1; nature = t.0; known = t.1 }
      where
        by_result : (r : Result Meant Refusal) → judge_w r ≡ WritesOf fid from bytes → r ≡ Ok (WritesOf fid from bytes)
        by_result (Ok v) q = ap Ok q
        by_result (Err refusal) q = absurd (cc)

        ends : outcome view write_it ≡ Ok (WritesOf fid from bytes)
        ends = by_result (outcome view write_it) (sym (outcome_end view judge_w write_it) ∙ out)

        by_target : (r : Result Fid Refusal) → outcome view target_w ≡ r
            → and_then r (λ f. outcome view (written_look from bytes f)) ≡ Ok (WritesOf fid from bytes)
            → (nature : Nature) × (view fid Traits ≡ Some nature)
        by_target (Ok f) is q =
            let l = leads_to f is in
            (l.0, subst (λ (g : Fid). view g Traits ≡ Some l.0) (written_at f q) l.1)
        by_target (Err refusal) is q = absurd (cc)

pub write_told : (m : Tables) (place : NamedPlace) (from : ℕ) (bytes : List ℕ) (root : Fid) (path : List (List ℕ))
    (fid : Fid) → IsCovered (held_of m) (content m.cache) (path_look m (Write place from bytes) root path)
    → outcome (content m.cache) (path_look m (Write place from bytes) root path) ≡ WritesOf fid from bytes
    → IsWritten m fid from bytes
unfolding write_look
write_told m place from bytes root path fid covered out = written_so m root path from bytes fid covered out
