-- What becomes of a Write.
use Rattle.std.specs.Prelude.{if◌then◌else◌}
use Rattle.std.proofs.Common.{◌≡◌, ◌≤◌, ◌<◌, ◌+◌, ◌-◌, ℕ, Bool, true, false, ◌==◌, min, List, [], ◌∷◌, length, nat_lt}
use Rattle.std.proofs.Common.{Option, Some, None, Result, Ok, Err, refl, sym, ap, subst, ◌∙◌, inl, inr, arith}
use Rattle.base_types.specs.declared.ids.Fid.{Fid}
use Rattle.base_types.specs.declared.limits.TheConstants.{FILE_BYTES_MAX}
use Rattle.base_types.specs.declared.user.User.{User}
use Rattle.std.proofs.lemmas.Bool.Decides.{nat_tests}
use Rattle.token_types.specs.Covers.{Covers}
use Rattle.token_types.specs.declared.token.Kind.TheVariants.{Bytes}
use Rattle.token_types.specs.declared.token.Need.{Need}
use Rattle.token_types.specs.declared.token.Token.{Token}
use Rattle.tree_calls.specs.declared.reply.Refusal.{Refusal}
use Rattle.tree_calls.specs.declared.reply.Refusal.TheVariants.{ReadOnly, TooBig}
use Rattle.tree_calls.specs.declared.reply.Reply.TheVariants.{Ok as Done}
use Rattle.tree_filesets.specs.Rights.{write_right}
use Rattle.tree_laws.specs.Parts.{Nature}
use Rattle.tree_laws.specs.Parts.Part.{Size}
use Rattle.need_host.specs.Calls.{Verdict, fits_file, write_takes, write_target_look, written_look}
use Rattle.need_host.specs.Calls.Verdict.{Replies, Writes}
use Rattle.need_host.specs.Looks.{CoverAll, IsFirstLack, Look, View, checked, needs_of, refuse_if, rounded}
use Rattle.need_host.specs.Looks.Look.{Ends, Looks, Takes}
use Rattle.need_host.specs.Walks.{nature_look, permitted_look}
use Rattle.host_walk.specs.Bytes.{write_meant, write_needs, written_blocks}
use Rattle.host_walk.specs.declared.sight.Stop.{Stop}
use Rattle.host_walk.specs.declared.sight.Stop.TheVariants.{Lacks, Refused}
use Rattle.host_walk.specs.Trying.{Finds, IsStopped, length_need, status_need}
use Rattle.host_walk.proofs.Trying.{GoesOn, checked_on, goes_by, goes_self, looks_on, passes_on, refused_by, stops_on}
use Rattle.host_walk.proofs.Trying.{takes_on}

module _ (held : List Token) (view : View) (user : User) (root : Fid) (path : List (List ℕ)) where
  -- ---- the file that is to be written
  module _ (end : ℕ) where
    abbrev behind_right : Look (Result Fid Refusal)
    behind_right = checked (permitted_look user root path write_right) (fits_file end)

    abbrev behind_root : Nature → Look (Result Fid Refusal)
    behind_root nature = refuse_if nature.read_only ReadOnly behind_right

    pub write_unseen : (stop : Stop) → IsStopped held view (nature_look root) stop →
        IsStopped held view (write_target_look user root path end) stop
    write_unseen stop h = stops_on held view behind_root (nature_look root) stop h

    module _ (top : Nature) (seen : Finds held view (nature_look root) top) where
      write_on : GoesOn held view (behind_root top) (write_target_look user root path end)
      write_on = checked_on held view behind_root (nature_look root) top seen

      pub write_clone : top.read_only ≡ true →
          IsStopped held view (write_target_look user root path end) (Refused ReadOnly)
      write_clone e = write_on.stops (Refused ReadOnly) (refused_by held view top.read_only ReadOnly behind_right e)

      module _ (plain : top.read_only ≡ false) where
        write_behind : GoesOn held view behind_right (write_target_look user root path end)
        write_behind =
            goes_by held view behind_right (behind_root top) (write_target_look user root path end)
            (passes_on held view top.read_only ReadOnly behind_right plain) write_on

        pub write_unfound : (stop : Stop) → IsStopped held view (permitted_look user root path write_right) stop →
            IsStopped held view (write_target_look user root path end) stop
        write_unfound stop h =
            write_behind.stops stop
            (stops_on held view (fits_file end) (permitted_look user root path write_right) stop h)

        module _ (fid : Fid) (nature : Nature)
            (found : Finds held view (permitted_look user root path write_right) (fid, nature)) where
          fits_on : GoesOn held view (fits_file end (fid, nature)) (write_target_look user root path end)
          fits_on =
              goes_by held view (fits_file end (fid, nature)) behind_right (write_target_look user root path end)
              (checked_on held view (fits_file end) (permitted_look user root path write_right) (fid, nature) found)
              write_behind

          pub write_too_big : nat_lt FILE_BYTES_MAX end ≡ true →
              IsStopped held view (write_target_look user root path end) (Refused TooBig)
          write_too_big e =
              fits_on.stops (Refused TooBig)
              (refused_by held view (nat_lt FILE_BYTES_MAX end) TooBig (Ends (Ok fid)) e)

          pub write_fits : nat_lt FILE_BYTES_MAX end ≡ false →
              Finds held view (write_target_look user root path end) fid
          write_fits e =
              fits_on.finds fid ((passes_on held view (nat_lt FILE_BYTES_MAX end) TooBig (Ends (Ok fid)) e).finds fid
              (record { covered = tt; ends = refl }))

  -- a position up to which is written, as far as numbers go
  bigger : (end capped : ℕ) → capped ≡ min end 4294967295 → nat_lt 65536 capped ≡ nat_lt 65536 end
  bigger end capped e = by_test (nat_lt 65536 end) refl
    where
      by_test : (b : Bool) → nat_lt 65536 end ≡ b → nat_lt 65536 capped ≡ b
      by_test true h = grind (arith, nat_tests, h, e)
      by_test false h = grind (arith, nat_tests, h, e)

  abbrev by_fit : Bool → Look (Result Fid Refusal)
  by_fit b =
      checked (nature_look root) (λ nature. refuse_if nature.read_only ReadOnly
      (checked (permitted_look user root path write_right) (λ found. refuse_if b TooBig (Ends (Ok found.0)))))

  pub same_target : (end capped : ℕ) → capped ≡ min end 4294967295 →
      write_target_look user root path capped ≡ write_target_look user root path end
  same_target end capped e =
      ap by_fit (bigger end capped e)

  -- ---- what is written
  module _ (from : ℕ) (bytes : List ℕ) where
    abbrev whole_write : Look (Result Verdict Refusal)
    whole_write = checked (write_target_look user root path (from + length bytes)) (written_look from bytes)

    pub write_untargeted : (stop : Stop) →
        IsStopped held view (write_target_look user root path (from + length bytes)) stop →
        IsStopped held view whole_write stop
    write_untargeted stop h =
        stops_on held view (written_look from bytes) (write_target_look user root path (from + length bytes)) stop h

    module _ (fid : Fid)
        (found : Finds held view (write_target_look user root path (from + length bytes)) fid) where
      written_on : GoesOn held view (written_look from bytes fid) whole_write
      written_on =
          checked_on held view (written_look from bytes) (write_target_look user root path (from + length bytes)) fid
          found

      pub nothing_written : bytes ≡ [] → Finds held view whole_write (write_meant from bytes None)
      nothing_written e =
          written_on.finds (Replies Done)
          (subst (λ bs. Finds held view (written_look from bs fid) (Replies Done)) (sym e)
          (record { covered = tt; ends = refl }))

      module _ (some : bytes ≡ [] → ⊥) (covered : Covers held (status_need fid)) where
        abbrev takes : Look (Result Verdict Refusal)
        takes = write_takes fid from (from + length bytes) (view fid Size) (Ends (Ok (Writes fid from bytes)))

        takes_on_size : GoesOn held view takes (written_look from bytes fid)
        takes_on_size = by_bytes bytes some
          where
            by_bytes : (bs : List ℕ) → (bs ≡ [] → ⊥) →
                GoesOn held view
                (write_takes fid from (from + length bs) (view fid Size) (Ends (Ok (Writes fid from bs))))
                (written_look from bs fid)
            by_bytes [] none = absurd (none refl)
            by_bytes (b ∷ bs) none =
                looks_on held view fid Size
                (λ size. write_takes fid from (from + length (b ∷ bs)) size (Ends (Ok (Writes fid from (b ∷ bs)))))
                covered

        takes_whole : GoesOn held view takes whole_write
        takes_whole = goes_by held view takes (written_look from bytes fid) whole_write takes_on_size written_on

        pub write_found : CoverAll held (write_needs fid from (from + length bytes) (view fid Size)) →
            Finds held view whole_write (write_meant from bytes (Some fid))
        write_found all =
            takes_whole.finds (Writes fid from bytes) (by_test (nat_lt (view fid Size) (from + length bytes)) all)
          where
            by_test : (b : Bool) →
                CoverAll held (if b then length_need fid ∷ record {
                  fid = fid;
                  kind = Bytes true (rounded (min from (view fid Size)) (from + length bytes));
                } ∷ []
                else record { fid = fid; kind = Bytes true (rounded from (from + length bytes)) } ∷ []) →
                Finds held view (if b then Takes (length_need fid) (Takes (record {
                  fid = fid;
                  kind = Bytes true (rounded (min from (view fid Size)) (from + length bytes));
                })
                (Ends (Ok (Writes fid from bytes))))
                else Takes (record { fid = fid; kind = Bytes true (rounded from (from + length bytes)) })
                (Ends (Ok (Writes fid from bytes)))) (Writes fid from bytes)
            by_test true c = record { covered = c; ends = refl }
            by_test false c = record { covered = c; ends = refl }

        abbrev writes_now : Look (Result Verdict Refusal)
        writes_now = Ends (Ok (Writes fid from bytes))

        pub write_lacks : (need : Need) →
            IsFirstLack held (write_needs fid from (from + length bytes) (view fid Size)) need → (stop : Stop) →
            stop ≡ Lacks need → IsStopped held view whole_write stop
        write_lacks need lack stop e =
            subst (IsStopped held view whole_write) (sym e)
            (takes_whole.stops (Lacks need) (by_test (nat_lt (view fid Size) (from + length bytes)) lack))
          where
            by_test : (b : Bool) →
                IsFirstLack held (if b then length_need fid ∷ record {
                  fid = fid;
                  kind = Bytes true (rounded (min from (view fid Size)) (from + length bytes));
                } ∷ []
                else record { fid = fid; kind = Bytes true (rounded from (from + length bytes)) } ∷ []) need →
                IsFirstLack held (needs_of view (if b then Takes (length_need fid) (Takes (record {
                  fid = fid;
                  kind = Bytes true (rounded (min from (view fid Size)) (from + length bytes));
                })
                writes_now)
                else Takes (record { fid = fid; kind = Bytes true (rounded from (from + length bytes)) })
                writes_now)) need
            by_test true l = l
            by_test false l = l

-- ---- tests, and what a write needs
pub is_more : (a b : ℕ) → a < b → nat_lt a b ≡ true
is_more a b h = grind (arith, nat_tests, h)

pub is_no_more : (a b : ℕ) → b ≤ a → nat_lt a b ≡ false
is_no_more a b h = grind (arith, nat_tests, h)

abbrev pub blocks_need : Fid → ℕ → ℕ → ℕ → Need
blocks_need fid from to size = record { fid = fid; kind = Bytes true (written_blocks from to size) }

module _ (fid : Fid) (from to size : ℕ) where
  abbrev by_size : Bool → List Need
  by_size b =
      if b then length_need fid ∷ record { fid = fid; kind = Bytes true (rounded (min from size) to) } ∷ []
      else record { fid = fid; kind = Bytes true (rounded from to) } ∷ []

  abbrev blocks_by : Bool → Need
  blocks_by b =
      record { fid = fid; kind = Bytes true (if b then rounded (min from size) to else rounded from to) }

  pub needs_longer : size < to → write_needs fid from to size ≡ length_need fid ∷ blocks_need fid from to size ∷ []
  needs_longer h =
      let e = is_more size to h in
      ap by_size e ∙ ap (λ b. length_need fid ∷ blocks_by b ∷ []) (sym e)

  pub needs_within : to ≤ size → write_needs fid from to size ≡ blocks_need fid from to size ∷ []
  needs_within h = let e = is_no_more size to h in ap by_size e ∙ ap (λ b. blocks_by b ∷ []) (sym e)

pub none_of : (bytes : List ℕ) → (length bytes == 0) ≡ true → bytes ≡ []
none_of [] h = refl
none_of (b ∷ bs) h = absurd (grind (arith, nat_tests, h))

pub some_of : (bytes : List ℕ) → (length bytes == 0) ≡ false → bytes ≡ [] → ⊥
some_of bytes h e =
    let zero : length bytes ≡ 0 = ap length e in grind (arith, nat_tests, h, zero)

pub end_is : (from count to : ℕ) → to ≡ min (from + count) 4294967295 → to ≤ 65536 → to ≡ from + count
end_is from count to e h = omega (arith, e, h)
