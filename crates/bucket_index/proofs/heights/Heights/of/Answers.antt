use Rattle.bucket_index.proofs.heights.Heights.of.Goals as goal

pub returns-then-shelves-gt-FEW_SHELVES : goal.returns-then-shelves-gt-FEW_SHELVES
returns-then-shelves-gt-FEW_SHELVES c = λ known. c.learn.ensures

pub returns-else-shelves-gt-FEW_SHELVES : goal.returns-else-shelves-gt-FEW_SHELVES
returns-else-shelves-gt-FEW_SHELVES c = λ known. absurd (cc)
