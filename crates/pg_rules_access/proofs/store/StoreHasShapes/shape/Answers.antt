use Rattle.pg_rules_access.proofs.store.StoreHasShapes.shape.Goals as goal

pub returns-in-Newest-clause-within : goal.returns-in-Newest-clause-within
returns-in-Newest-clause-within c = c.store_newest.ensures.within c.args._layout.now

pub returns-in-Ordered-clause-within : goal.returns-in-Ordered-clause-within
returns-in-Ordered-clause-within c = c.store_ordered.ensures.within c.args._layout.now

pub returns-in-Fenced-clause-within : goal.returns-in-Fenced-clause-within
returns-in-Fenced-clause-within c = c.store_fenced.ensures.within c.args._layout.now
