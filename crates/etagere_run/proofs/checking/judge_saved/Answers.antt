use Rattle.std.proofs.Common.{◌≡◌, refl, subst, sym, ◌∙◌, arith}
use Rattle.std.specs.Prelude.{IfErr, IfOk, Result}
use Rattle.etagere_base.specs.declared.faults.RestoreFault.{RestoreFault}
use Rattle.etagere_base.specs.declared.faults.RestoreFault.TheVariants as rules
use Rattle.run_scripts.specs.declared.faults.Checked.{Checked}
use Rattle.run_scripts.specs.declared.faults.ReplayFault.{ReplayFault}
use Rattle.run_scripts.specs.declared.faults.ReplayFault.TheVariants.{Memory}
use Rattle.saved_json.specs.declared.saved.Saved.{Saved}
use Rattle.saved_json.specs.declared.saved.Saved.TheVariants.{Bucketed}
use Rattle.etagere_run.specs.Private.Judged.{refusal}
use Rattle.etagere_run.specs.Saved.{Breaks, IsRightOf, StandsForOne}
use Rattle.etagere_run.proofs.checking.judge_saved.Goals as goal
use Rattle.etagere_run.proofs.checking.judge_saved.Goals.{in-Ok-restore, in-Err-restore}

-- what is answered of a broken rule is right
right-refused : (saved : Saved) (fault : RestoreFault) → Breaks saved fault → IfOk (refusal fault) (λ checked. IsRightOf checked saved)
right-refused saved rules.Frame broken = record { fault = rules.Frame; broken = broken; number_is = refl; first = omega arith; last = omega arith }
right-refused saved rules.Counts broken = record { fault = rules.Counts; broken = broken; number_is = refl; first = omega arith; last = omega arith }
right-refused saved rules.Link broken = record { fault = rules.Link; broken = broken; number_is = refl; first = omega arith; last = omega arith }
right-refused saved rules.Shelves broken = record { fault = rules.Shelves; broken = broken; number_is = refl; first = omega arith; last = omega arith }
right-refused saved rules.Runs broken = record { fault = rules.Runs; broken = broken; number_is = refl; first = omega arith; last = omega arith }
right-refused saved rules.Neighbours broken = record { fault = rules.Neighbours; broken = broken; number_is = refl; first = omega arith; last = omega arith }
right-refused saved rules.FreeList broken = record { fault = rules.FreeList; broken = broken; number_is = refl; first = omega arith; last = omega arith }
right-refused saved rules.Sharing broken = record { fault = rules.Sharing; broken = broken; number_is = refl; first = omega arith; last = omega arith }
right-refused saved rules.Unused broken = record { fault = rules.Unused; broken = broken; number_is = refl; first = omega arith; last = omega arith }
right-refused saved rules.Space broken = record { fault = rules.Space; broken = broken; number_is = refl; first = omega arith; last = omega arith }
right-refused saved rules.Memory broken = tt

-- the only fault is that memory was wanting
fault-refused : (fault : RestoreFault) → IfErr (refusal fault) (λ f. f ≡ Memory)
fault-refused rules.Frame = tt
fault-refused rules.Counts = tt
fault-refused rules.Link = tt
fault-refused rules.Shelves = tt
fault-refused rules.Runs = tt
fault-refused rules.Neighbours = tt
fault-refused rules.FreeList = tt
fault-refused rules.Sharing = tt
fault-refused rules.Unused = tt
fault-refused rules.Space = tt
fault-refused rules.Memory = refl

pub returns-after-restore-3-clause-answer : goal.returns-after-restore-3-clause-answer
returns-after-restore-3-clause-answer c =
    elim c.match-restore-3.branch [
      | in-Ok-restore w ↦
          subst (λ (r : Result Checked ReplayFault). IfOk r (λ checked. IsRightOf checked c.args.saved)) (sym w.result-is)
          (subst StandsForOne (sym c.in-Bucketed.is) (w.in-Ok-restore.field-0, w.in-Ok-restore.ensures.ok))
      | in-Err-restore w ↦
          subst (λ (r : Result Checked ReplayFault). IfOk r (λ checked. IsRightOf checked c.args.saved)) (sym (w.result-is ∙ w.refusal-in-Err-restore.ensures))
          (subst (λ (saved : Saved). IfOk (refusal w.in-Err-restore.fault) (λ checked. IsRightOf checked saved)) (sym c.in-Bucketed.is)
          (right-refused (Bucketed c.in-Bucketed.snapshot) w.in-Err-restore.fault w.in-Err-restore.ensures.fault))
    ]

pub returns-after-restore-3-clause-fault : goal.returns-after-restore-3-clause-fault
returns-after-restore-3-clause-fault c =
    elim c.match-restore-3.branch [
      | in-Ok-restore w ↦ subst (λ (r : Result Checked ReplayFault). IfErr r (λ fault. fault ≡ Memory)) (sym w.result-is) tt
      | in-Err-restore w ↦ subst (λ (r : Result Checked ReplayFault). IfErr r (λ fault. fault ≡ Memory)) (sym (w.result-is ∙ w.refusal-in-Err-restore.ensures)) (fault-refused w.in-Err-restore.fault)
    ]
