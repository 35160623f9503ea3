-- How often a number stands in a list: of the first one, and of another.
pub use Rattle.etagere_base.proofs.TimesLemmas.{times-here, times-other}
