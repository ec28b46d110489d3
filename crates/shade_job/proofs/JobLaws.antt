-- The first fault of a job, rule by rule; and one answer for each text.
use Rattle.std.proofs.Common.{◌≡◌, ℕ, inl, inr, List, [], Some}
use Rattle.serde_json.specs.Data.{Data, Members}
use Rattle.shade_core.specs.declared.module.CoreModule.{CoreModule}
use Rattle.shade_job.specs.declared.policies.Schedule.{Schedule}
use Rattle.shade_job.specs.declared.refusal.JobRule.TheVariants as rule
use Rattle.shade_job.specs.declared.refusal.JobRefusal.{JobRefusal}
use Rattle.shade_job.specs.Refusals.{Refuses}
use Rattle.shade_job.specs.ByRule.{RefusesBy}
use Rattle.shade_job.specs.Rules.{VersionIs, VersionFails, EntryIs, EntryFails, lanes_at, GroupsAre, GroupsFail, GroupIs, GroupFails, StepsAre, StepsFail, is_known, other_of}
use Rattle.shade_job.specs.Buffers.{BuffersAre, BuffersFail, WordsAre, WordsFail}
use Rattle.shade_job.specs.Schedules.{ScheduleIs, ScheduleFails}
use Rattle.shade_job.specs.Pointers.{member_pointer}
use Rattle.shade_job.specs.JobOf.{IsFaultOf}
use Rattle.shade_job.proofs.RefusalLaws.{refuses_for}

module _ (shader : CoreModule) (value : Data) (f : JobRefusal) where
  pub at_version : RefusesBy rule.Version (VersionFails value) f → Refuses (IsFaultOf shader value) f
  at_version h = refuses_for (λ p r. (r ≡ rule.Version) × VersionFails value p) (IsFaultOf shader value) f (λ p r k. inl k) h

  module _ (version : ℕ) (is_version : VersionIs value version) where
    pub at_entry : RefusesBy rule.Entry (EntryFails shader value) f → Refuses (IsFaultOf shader value) f
    at_entry h = refuses_for (λ p r. (r ≡ rule.Entry) × EntryFails shader value p) (IsFaultOf shader value) f (λ p r k. inr (version, is_version, inl k)) h

    module _ (entry : ℕ) (is_entry : EntryIs shader value entry) where
      pub at_groups : RefusesBy rule.Groups (GroupsFail value) f → Refuses (IsFaultOf shader value) f
      at_groups h = refuses_for (λ p r. (r ≡ rule.Groups) × GroupsFail value p) (IsFaultOf shader value) f (λ p r k. inr (version, is_version, inr (entry, is_entry, inl k))) h

      module _ (groups : List ℕ) (is_groups : GroupsAre value groups) where
        pub at_group : RefusesBy rule.Group (GroupFails groups value) f → Refuses (IsFaultOf shader value) f
        at_group h = refuses_for (λ p r. (r ≡ rule.Group) × GroupFails groups value p) (IsFaultOf shader value) f (λ p r k. inr (version, is_version, inr (entry, is_entry, inr (groups, is_groups, inl k)))) h

        module _ (group : List ℕ) (is_group : GroupIs groups value group) where
          pub at_buffers : RefusesBy rule.Buffers (BuffersFail shader value) f → Refuses (IsFaultOf shader value) f
          at_buffers h = refuses_for (λ p r. (r ≡ rule.Buffers) × BuffersFail shader value p) (IsFaultOf shader value) f (λ p r k. inr (version, is_version, inr (entry, is_entry, inr (groups, is_groups, inr (group, is_group, inl k))))) h

          module _ (members : Members) (is_buffers : BuffersAre shader value members) where
            pub at_words : RefusesBy rule.Words (WordsFail shader members) f → Refuses (IsFaultOf shader value) f
            at_words h = refuses_for (λ p r. (r ≡ rule.Words) × WordsFail shader members p) (IsFaultOf shader value) f (λ p r k. inr (version, is_version, inr (entry, is_entry, inr (groups, is_groups, inr (group, is_group, inr (members, is_buffers, inl k)))))) h

            module _ (words : List (List ℕ)) (is_words : WordsAre shader members words) where
              pub at_schedule : RefusesBy rule.Schedule (ScheduleFails version (lanes_at shader entry) value) f → Refuses (IsFaultOf shader value) f
              at_schedule h = refuses_for (λ p r. (r ≡ rule.Schedule) × ScheduleFails version (lanes_at shader entry) value p) (IsFaultOf shader value) f (λ p r k. inr (version, is_version, inr (entry, is_entry, inr (groups, is_groups, inr (group, is_group, inr (members, is_buffers, inr (words, is_words, inl k))))))) h

              module _ (schedule : Schedule) (is_schedule : ScheduleIs version (lanes_at shader entry) value schedule) where
                pub at_steps : RefusesBy rule.Steps (StepsFail value schedule) f → Refuses (IsFaultOf shader value) f
                at_steps h = refuses_for (λ p r. (r ≡ rule.Steps) × StepsFail value schedule p) (IsFaultOf shader value) f (λ p r k. inr (version, is_version, inr (entry, is_entry, inr (groups, is_groups, inr (group, is_group, inr (members, is_buffers, inr (words, is_words, inr (schedule, is_schedule, inl k)))))))) h

                module _ (limit : ℕ) (is_steps : StepsAre value schedule limit) where
                  pub at_other : RefusesBy rule.OtherMember (λ p. (name : List ℕ) × (other_of is_known value ≡ Some name) × (p ≡ member_pointer [] name)) f → Refuses (IsFaultOf shader value) f
                  at_other h = refuses_for (λ p r. (r ≡ rule.OtherMember) × ((name : List ℕ) × (other_of is_known value ≡ Some name) × (p ≡ member_pointer [] name))) (IsFaultOf shader value) f (λ p r k. inr (version, is_version, inr (entry, is_entry, inr (groups, is_groups, inr (group, is_group, inr (members, is_buffers, inr (words, is_words, inr (schedule, is_schedule, inr (limit, is_steps, (k.0, k.1.0, k.1.1, k.1.2)))))))))) h
