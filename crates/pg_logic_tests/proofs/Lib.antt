mod FirstStep
